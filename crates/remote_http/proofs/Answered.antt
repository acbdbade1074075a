-- The answers of a snapshot that a pass lends.
use Rattle.std.proofs.Common.{◌≡◌, ◌+◌, ◌<◌, ℕ, Bool, true, false, List, [], ◌∷◌, ◌++◌, length, get_or, take, drop, refl, ap, sym, subst, ◌∙◌, add-one, append_assoc, inl, inr, Option, None, Some}
use Rattle.std.specs.Prelude.{IsTrue, ◌&&◌}
use Rattle.std.specs.List.{list_all}
use Rattle.std.proofs.Math.Seq.{take-suc}
use Rattle.std.proofs.lemmas.List.{take-append-drop, at_drop_more, append-nil}
use Rattle.std.proofs.lemmas.List.Folds.{list_all-append}
use mathlib.Core.List.{IsPrefix}
use Rattle.labels.specs.Rows.{Row}
use Rattle.matchers.specs.Views.{QueryView}
use Rattle.protobuf_fields.specs.Format.{EachIs}
use Rattle.head.specs.Heads.{SnapshotParts}
use Rattle.snapshots.specs.Replays.{IsAfter}
use Rattle.snapshots.specs.Views.{Known}
use Rattle.labels.specs.Contents.{Content}
use Rattle.labels.specs.Rows.{AreRows}
use Rattle.matchers.specs.Queries.{selected_by}
use Rattle.block_search.specs.Skipping.{LosesNothing}
use Rattle.answers.specs.declared.audited.AuditedAnswer.{AuditedAnswer}
use Rattle.answers.specs.Audited.{IsAudited}
use Rattle.answers.specs.MergedRows.{rows_of}
use Rattle.answers.proofs.Headlines.{world_content}
use Rattle.remote_rows.specs.Sent.{Answer, IsReplyTo, IsBodyOf}
use Rattle.remote_rows.proofs.Each.{each_more}
use Rattle.remote_requests.specs.declared.asked.Reading.{Reading}
use Rattle.std.proofs.Common.{Result, Ok, Err, IfOk}
use Rattle.remote_requests.specs.declared.refusal.Refusal.TheVariants.{NoMetric}
use Rattle.remote_requests.specs.declared.status.Status.TheVariants.{Done}
use Rattle.remote_http.specs.declared.reply.Reply.{Reply}
use Rattle.remote_http.specs.Reply.{text_of}
use Rattle.remote_http.specs.Text.{packed_text}
use Rattle.remote_http.specs.Writing.{IsReplyOfRefusal}
use Rattle.remote_http.specs.Answering.{AddsAnswer, AnswersAt, AreRowsAt, HasAnswers, HasUnnamed, IsUnnamed}
use Rattle.remote_http.specs.Reading.{Answers, are_named, AreRowsFor, has_names, IsReadReply}

both : (a b : Bool) → a ≡ true → b ≡ true → IsTrue (a && b)
both a b p q = ap (λ c. c && b) p ∙ q

-- nothing is written yet
pub no_answers : (text : List ℕ) → text ≡ [] → IsReplyTo [] text
no_answers text none = record { results = []; each = tt; spelled = none; fits = tt }

-- no reading yet
pub none_answered : (front : List Answer) (snapshot : SnapshotParts) (text : List ℕ) → IsReplyTo front text
    → HasAnswers front snapshot [] text
none_answered front snapshot text r = record {
  answers = [];
  each = tt;
  named = refl;
  reply = subst (λ (all : List Answer). IsReplyTo all text) (sym (append-nil front)) r;
}

-- one more
pub one_answered : (front : List Answer) (snapshot : SnapshotParts) (readings : List Reading) (i : ℕ) (reading : Reading)
    (old new : List ℕ) → i < length readings → reading ≡ get_or readings i reading
    → HasAnswers front snapshot (take i readings) old → AddsAnswer snapshot reading old new
    → HasAnswers front snapshot (take (i + 1) readings) new
one_answered front snapshot readings i reading old new h is all a =
    let at : take (i + 1) readings ≡ take i readings ++ reading ∷ [] =
    rw add-one (take-suc readings i reading h ∙ ap (λ (r : Reading). take i readings ++ r ∷ []) (sym is)) in
    subst (λ (rs : List Reading). HasAnswers front snapshot rs new) (sym at) (record {
      answers = all.answers ++ a.answer ∷ [];
      each = each_more (AnswersAt snapshot) (take i readings) all.answers reading a.answer all.each a.answers;
      named =
          list_all-append has_names all.answers (a.answer ∷ [])
          ∙ both (list_all has_names all.answers) (list_all has_names (a.answer ∷ [])) all.named
          (both (has_names a.answer) true a.named refl);
      reply =
          subst (λ (those : List Answer). IsReplyTo those new) (append_assoc front all.answers (a.answer ∷ []))
          (a.adds (front ++ all.answers) all.reply);
    })

-- the answer to a query, which is not sent
pub found_unnamed : (snapshot : SnapshotParts) (reading : Reading) (query : QueryView) (audited : AuditedAnswer)
    (rows : List Row) → reading.query ≡ Some query → IsAudited query snapshot audited → LosesNothing query snapshot
    → rows ≡ rows_of audited → are_named rows ≡ false → IsUnnamed snapshot reading
found_unnamed snapshot reading query audited rows e is whole are named = record {
  answer = (reading.names_alone, rows);
  answers = record {
    names = refl;
    rows =
        subst (λ (q : Option QueryView). AreRowsAt snapshot q rows) (sym e)
        (record { audited = audited; is = is; whole = whole; are = are });
  };
  unnamed = named;
}

-- the same, which is
pub answer_added : (snapshot : SnapshotParts) (reading : Reading) (query : QueryView) (audited : AuditedAnswer)
    (rows : List Row) (old new : List ℕ) → reading.query ≡ Some query → IsAudited query snapshot audited
    → LosesNothing query snapshot → rows ≡ rows_of audited → are_named rows ≡ true
    → ((front : List Answer) → IsReplyTo front old → IsReplyTo (front ++ (reading.names_alone, rows) ∷ []) new)
    → AddsAnswer snapshot reading old new
answer_added snapshot reading query audited rows old new e is whole are named adds = record {
  answer = (reading.names_alone, rows);
  answers = record {
    names = refl;
    rows =
        subst (λ (q : Option QueryView). AreRowsAt snapshot q rows) (sym e)
        (record { audited = audited; is = is; whole = whole; are = are });
  };
  named = named;
  adds = adds;
}

-- and where nothing is asked
pub nothing_added : (snapshot : SnapshotParts) (reading : Reading) (old new : List ℕ) → reading.query ≡ None
    → ((front : List Answer) → IsReplyTo front old → IsReplyTo (front ++ (reading.names_alone, []) ∷ []) new)
    → AddsAnswer snapshot reading old new
nothing_added snapshot reading old new e adds = record {
  answer = (reading.names_alone, []);
  answers = record {
    names = refl;
    rows = subst (λ (q : Option QueryView). AreRowsAt snapshot q []) (sym e) refl;
  };
  named = refl;
  adds = adds;
}

-- a row that cannot be sent
pub one_unnamed : (snapshot : SnapshotParts) (readings : List Reading) (i : ℕ) (reading : Reading)
    → i < length readings → reading ≡ get_or readings i reading → IsUnnamed snapshot reading
    → HasUnnamed snapshot readings
one_unnamed snapshot readings i reading h is found = record {
  front = take i readings;
  reading = reading;
  back = drop (i + 1) readings;
  is =
      sym (take-append-drop i readings)
      ∙ ap (λ (rs : List Reading). take i readings ++ rs)
      (at_drop_more (λ (rs : List Reading). rs) readings i reading h
      ∙ ap (λ (r : Reading). r ∷ drop (i + 1) readings) (sym is));
  found = found;
}

module _ (opening : SnapshotParts) (before after : Known) (snapshot : SnapshotParts)
    (seen : IsPrefix before.seen after.seen) (told : IsPrefix before.told after.seen)
    (replay : IsAfter opening after.seen snapshot) where
  rows_of_store : (query : Option QueryView) (rows : List Row) → AreRowsAt snapshot query rows
      → AreRowsFor opening before after snapshot query rows
  rows_of_store None rows r = r
  rows_of_store (Some query) rows r = record {
    audited = r.audited;
    headline = record {
      seen = seen;
      told = told;
      snapshot = snapshot;
      replay = replay;
      rows =
          subst (λ (c : Content). AreRows (rows_of r.audited) (selected_by query c)) (world_content snapshot) r.is.rows;
      whole = r.whole;
      parts = r.is.each;
    };
    same = refl;
    are = r.are;
  }

  pub answer_of_store : (reading : Reading) (answer : Answer) → AnswersAt snapshot reading answer
      → Answers opening before after snapshot reading answer
  answer_of_store reading answer a =
      record { names = a.names; rows = rows_of_store reading.query answer.1 a.rows }

  pub answers_of_store : (readings : List Reading) (answers : List Answer) → EachIs (AnswersAt snapshot) readings answers
      → EachIs (Answers opening before after snapshot) readings answers
  answers_of_store [] [] e = tt
  answers_of_store [] (a ∷ answers) e = absurd e
  answers_of_store (r ∷ readings) [] e = absurd e
  answers_of_store (r ∷ readings) (a ∷ answers) e = (answer_of_store r a e.0, answers_of_store readings answers e.1)

  -- the reply that carries them
  pub rows_replied : {E : Type 0} (readings : List Reading) (text body : List ℕ) (result : Result Reply E)
      → HasAnswers [] snapshot readings text → ((answers : List Answer) → IsReplyTo answers text → IsBodyOf answers body)
      → IfOk result (λ r. r.status ≡ Done) → IfOk result (λ r. text_of r ≡ packed_text body)
      → IfOk result (λ r. IsReadReply opening readings before after r.status (text_of r))
  rows_replied readings text body (Ok r) all means number spelled = inl (record {
    snapshot = snapshot;
    answers = all.answers;
    each = answers_of_store readings all.answers all.each;
    named = all.named;
    body = body;
    means = means all.answers all.reply;
    number = number;
    spelled = spelled;
  })
  rows_replied readings text body (Err e) all means number spelled = tt

  -- or the one that cannot
  pub unnamed_replied : {E : Type 0} (readings : List Reading) (result : Result Reply E) → HasUnnamed snapshot readings
      → IfOk result (λ r. IsReplyOfRefusal NoMetric r.status (text_of r))
      → IfOk result (λ r. IsReadReply opening readings before after r.status (text_of r))
  unnamed_replied readings (Ok r) found told = inr (inl (record {
    snapshot = snapshot;
    front = found.front;
    reading = found.reading;
    back = found.back;
    is = found.is;
    answer = found.found.answer;
    answered = answer_of_store found.reading found.found.answer found.found.answers;
    unnamed = found.found.unnamed;
    refused = told;
  }))
  unnamed_replied readings (Err e) found told = tt
