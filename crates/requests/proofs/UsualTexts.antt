-- What the tokens of a usual body give the whole.
use Rattle.std.proofs.Common.{◌≡◌, ℕ, ℤ, ◌+◌, ◌-◌, ◌<◌, ◌≤◌, List, [], ◌∷◌, ◌++◌, length, true}
use Rattle.std.proofs.Common.{Option, None, Some, option_map, refl, sym, ap, ◌∙◌, arith, append-nil}
use Rattle.std.proofs.Common.{append_assoc, codes, IsUtf8}
use Rattle.std.specs.Prelude.{option_and_then}
use Rattle.json.specs.Token.{Token}
use Rattle.json.specs.Json.{parse_map, after_end_array, read_key, items, members, value}
use Rattle.json.specs.Lex.{tokens}
use Rattle.json.proofs.Grammar.{left, value_is, value-begin_array, value-begin_object}
use Rattle.json.proofs.Grammar.{read_key-shorter, skip_value-shorter}
use Rattle.serde_json.specs.Data.{Num, Data, number, string, array, object, Items, no_items, item}
use Rattle.serde_json.specs.Data.{Members, no_members, member, put}
use Rattle.serde_json.specs.Find.{as_array, as_i64}
use Rattle.serde_json.specs.Read.{of_json, of_items, of_members, converted, number_of}
use Rattle.labels.specs.Contents.{is_time}
use Rattle.requests.specs.Json.{integer_in}
use Rattle.requests.specs.Rows.{WrittenRow, pairs_in, sample_in, is_labelled, row_in, rows_in}
use Rattle.requests.specs.Rows.{rows_in_body}
use Rattle.requests.specs.Usual.{Comes, pairs_of_object, samples_of_list, rows_of_list}
use Rattle.requests.proofs.Conversions.{converted_some, converted-array, converted-object}
use Rattle.requests.proofs.Conversions.{item_read, items_over, member_read, members_over, text_read}
use Rattle.requests.proofs.JsonTexts.{json_when}
use Rattle.requests.proofs.RowTexts.{row_when}
use Rattle.requests.proofs.UsualLabels.{IsBehind}

-- ---- one value

-- the value that came, and what it means
came : {A : Type 0} (meaning : Data → Option A) (deep depth : ℕ) (old new : List Token) (a : A)
    → Comes meaning deep old a new → deep ≤ depth
    → (d : Data) × (converted of_json (value depth old) ≡ Some (d, new)) × (meaning d ≡ Some a)
came meaning deep depth old new a comes le = converted_some meaning (converted of_json
    (value depth old)) a new (comes depth le)

meant : {A : Type 0} (meaning : Data → Option A) (read : Option (Data × List Token)) (d : Data)
    (new : List Token) (a : A) → read ≡ Some (d, new) → meaning d ≡ Some a
    → converted meaning read ≡ Some (a, new)
meant meaning read d new a e is = ap (converted meaning) e ∙ ap (option_map (λ b. (b, new))) is

read_shorter : (depth : ℕ) (old new : List Token) (d : Data) → converted of_json (value depth old)
    ≡ Some (d, new) → length new < length old
read_shorter depth old new d e = let j = converted_some of_json (value depth old) d new e
    in skip_value-shorter depth old new (ap left j.1)

pub comes_shorter : {A : Type 0} (meaning : Data → Option A) (deep : ℕ) (old new : List Token)
    (a : A) → Comes meaning deep old a new → length new < length old
comes_shorter meaning deep old new a comes = let d = came meaning deep deep old new a comes
    (omega arith) in read_shorter deep old new d.0 d.1

-- a value does not begin with the bracket that closes an array
no_end : (depth : ℕ) (ts new : List Token) (d : Data) → converted of_json (value depth ts)
    ≡ Some (d, new) → after_end_array ts ≡ None
no_end depth [] new d e = refl
no_end depth (Token.begin_object ∷ ts) new d e = refl
no_end depth (Token.end_object ∷ ts) new d e = refl
no_end depth (Token.begin_array ∷ ts) new d e = refl
no_end depth (Token.end_array ∷ ts) new d e =
    let none : converted of_json (value depth (Token.end_array ∷ ts)) ≡ None = ap
    (converted of_json) (value_is depth (Token.end_array ∷ ts)) in
    absurd (cc)
no_end depth (Token.key s ∷ ts) new d e = refl
no_end depth (Token.string s ∷ ts) new d e = refl
no_end depth (Token.number s ∷ ts) new d e = refl
no_end depth (Token.boolean b ∷ ts) new d e = refl
no_end depth (Token.null ∷ ts) new d e = refl
no_end depth (Token.bad ∷ ts) new d e = refl

-- ---- an integer and a sample

integer_is : (o : Option Num) (z : ℤ) (new : List Token) → option_and_then as_i64 o ≡ Some z
    → converted integer_in (option_map {U = Data × List Token} (λ d. (d, new))
    (option_map number o)) ≡ Some (z, new)
integer_is None z new e = absurd (cc)
integer_is (Some n) z new e = ap (option_map {U = ℤ × List Token} (λ b. (b, new))) e

pub integer_comes : (old new : List Token) (text : List ℕ) (z : ℤ) → old ≡ Token.number text ∷ new
    → option_and_then as_i64 (number_of text) ≡ Some z → Comes integer_in 0 old z new
integer_comes old new text z first is depth le =
    ap (λ ts. converted integer_in (converted of_json (value depth ts))) first
    ∙ ap (λ o. converted integer_in (converted of_json o)) (value_is depth
    (Token.number text ∷ new)) ∙ integer_is (number_of text) z new is

pub sample_comes : (old a b c new : List Token) (t v : ℤ) → old ≡ Token.begin_array ∷ a
    → Comes integer_in 0 a t b → Comes integer_in 0 b v c → c ≡ Token.end_array ∷ new
    → is_time t ≡ true → Comes sample_in 1 old (t, v) new
sample_comes old a b c new t v first time value_comes last timed depth le =
    let p = value (depth - 1) in
    let x = came integer_in 0 (depth - 1) a b t time (omega arith) in
    let y = came integer_in 0 (depth - 1) b c v value_comes (omega arith) in
    let less = read_shorter (depth - 1) a b x.0 x.1 in
    let lesser = read_shorter (depth - 1) b c y.0 y.1 in
    let opened : converted of_json (value depth old)
    ≡ parse_map array (converted of_items (items p (length a) a)) =
    ap (λ ts. converted of_json (value depth ts)) first ∙ ap (converted of_json)
    (value-begin_array depth a (omega arith)) ∙ converted-array (items p (length a) a) in
    let two = item_read p (length a) a b x.0 (omega arith) (no_end (depth - 1) a b x.0 x.1) x.1
    ∙ ap (parse_map (item x.0)) (item_read p (length a - 1) b c y.0 (omega arith)
    (no_end (depth - 1) b c y.0 y.1) y.1
    ∙ ap (parse_map (item y.0)) (items_over p (length a - 1 - 1) c new (omega arith)
    (ap after_end_array last))) in
    meant sample_in (converted of_json (value depth old)) (array (item x.0 (item y.0 no_items))) new
    (t, v) (opened ∙ ap (parse_map array) two) (rw (x.2, timed, y.2))

-- ---- a list, as far as it has been read

-- `done` is what the items before `rest` mean
pub record ItemsSoFar {A : Type 0} (all : Items → Option (List A)) (deep : ℕ) (whole : List Token)
    (done : List A) (rest : List Token) : Type 0 where
  pub turns : ℕ
  pub enough : length rest ≤ turns
  pub same : (depth : ℕ) → deep ≤ depth
      → converted all (converted of_items (items (value depth) (length whole) whole))
      ≡ parse_map (λ xs. done ++ xs) (converted all (converted of_items
      (items (value depth) turns rest)))

none_before : {A : Type 0} (r : Option (List A × List Token)) → r ≡ parse_map (λ xs. xs) r
none_before None = refl
none_before (Some p) = refl

one_before : {A : Type 0} (done : List A) (x : A) (r : Option (List A × List Token))
    → parse_map (λ xs. done ++ xs) (parse_map (λ xs. x ∷ xs) r) ≡ parse_map
    (λ xs. (done ++ x ∷ []) ++ xs) r
one_before done x None = refl
one_before done x (Some p) = ap (λ xs. Some (xs, p.1)) (sym (append_assoc done (x ∷ []) p.0))

one_taken : {A : Type 0} (x : A) (r : List Token) (o : Option (List A))
    → option_map (λ b. (b, r)) (option_map (λ xs. x ∷ xs) o) ≡ parse_map (λ xs. x ∷ xs)
    (option_map (λ b. (b, r)) o)
one_taken x r None = refl
one_taken x r (Some xs) = refl

pub items_begin : {A : Type 0} (all : Items → Option (List A)) (deep : ℕ) (whole : List Token)
    → ItemsSoFar all deep whole [] whole
items_begin all deep whole = record {
  turns = length whole;
  enough = omega arith;
  same = λ depth le.
      none_before _;
}

module _ (A : Type 0) (one : Data → Option A) (all : Items → Option (List A))
    (none : all no_items ≡ Some [])
    (more : (d : Data) (ds : Items) → all (item d ds) ≡ option_and_then
    (λ x. option_map (λ xs. x ∷ xs) (all ds)) (one d)) where
  with_one : (d : Data) (x : A) → one d ≡ Some x → (o : Option (Items × List Token))
      → converted all (parse_map (item d) o) ≡ parse_map (λ xs. x ∷ xs) (converted all o)
  with_one d x e None = refl
  with_one d x e (Some p) = rw (more d p.0, e) (one_taken x p.1 (all p.0))

  pub items_turn : (deep : ℕ) (whole old new : List Token) (done : List A) (x : A)
      → ItemsSoFar all deep whole done old → after_end_array old ≡ None → Comes one deep old x new
      → ItemsSoFar all deep whole (done ++ x ∷ []) new
  items_turn deep whole old new done x so_far going comes =
      let less = comes_shorter one deep old new x comes in
      let enough = so_far.enough in
      record {
        turns = so_far.turns - 1;
        enough = omega arith;
        same = λ depth le.
            let d = came one deep depth old new x comes le in
            so_far.same depth le
            ∙ ap (λ o. parse_map (λ xs. done ++ xs) (converted all o)) (item_read (value depth)
            so_far.turns old new d.0 (omega arith) going d.1)
            ∙ ap (parse_map (λ xs. done ++ xs)) (with_one d.0 x d.2 _) ∙ one_before done x _;
      }

  abbrev of_list : Data → Option (List A)
  of_list d = option_and_then all (as_array d)

  of_array : (o : Option (Items × List Token)) → converted of_list (parse_map array o)
      ≡ converted all o
  of_array None = refl
  of_array (Some p) = refl

  pub items_end : (deep : ℕ) (old whole rest new : List Token) (done : List A) → old
      ≡ Token.begin_array ∷ whole → ItemsSoFar all deep whole done rest → after_end_array rest
      ≡ Some new
      → Comes (λ d. option_and_then all (as_array d)) (deep + 1) old done new
  items_end deep old whole rest new done first so_far over depth le =
      let p = value (depth - 1) in
      let opened : converted of_json (value depth old) ≡ parse_map array
      (converted of_items (items p (length whole) whole)) =
      ap (λ ts. converted of_json (value depth ts)) first ∙ ap (converted of_json)
      (value-begin_array depth whole (omega arith)) ∙ converted-array
      (items p (length whole) whole) in
      let closed : converted all (converted of_items (items p so_far.turns rest)) ≡ Some ([], new) =
      ap (converted all) (items_over p so_far.turns rest new so_far.enough over)
      ∙ ap (option_map (λ b. (b, new))) none in
      ap (converted of_list) opened ∙ of_array _ ∙ so_far.same (depth - 1) (omega arith)
      ∙ ap (parse_map (λ xs. done ++ xs)) closed
      ∙ ap (λ xs. Some (xs, new)) (append-nil done)

-- ---- the pairs of an object, as far as they have been read

-- the members that pairs of names and texts are
abbrev texts : List (List ℕ × List ℕ) → Members
texts [] = no_members
texts (p ∷ ps) = member p.0 (string p.1) (texts ps)

pairs_in_texts : (ps : List (List ℕ × List ℕ)) → pairs_in (texts ps) ≡ Some ps
pairs_in_texts [] = refl
pairs_in_texts (p ∷ ps) = rw (pairs_in_texts ps)

-- a name that is behind the others goes last
put_behind : (name text : List ℕ) (ps : List (List ℕ × List ℕ)) → IsBehind name ps
    → put name (string text) (texts ps) ≡ texts (ps ++ (name, text) ∷ [])
put_behind name text [] all = refl
put_behind name text (p ∷ ps) all = rw (all.0) (ap (member p.0 (string p.1))
    (put_behind name text ps all.1))

pub record PairsSoFar (whole : List Token) (done : List (List ℕ × List ℕ)) (rest : List Token) :
    Type 0 where
  pub turns : ℕ
  pub enough : length rest ≤ turns
  pub same : (depth : ℕ) → converted (λ ms. of_members ms no_members) (members (value depth)
      (length whole) whole) ≡ converted (λ ms. of_members ms (texts done))
      (members (value depth) turns rest)

pub pairs_begin : (whole : List Token) → PairsSoFar whole [] whole
pairs_begin whole = record { turns = length whole; enough = omega arith; same = λ depth. refl }

pub pairs_turn : (whole old mid new : List Token) (done : List (List ℕ × List ℕ))
    (name text : List ℕ) → PairsSoFar whole done old → read_key old ≡ Some (Some name, mid)
    → mid ≡ Token.string text ∷ new → IsBehind name done → PairsSoFar whole
    (done ++ (name, text) ∷ []) new
pairs_turn whole old mid new done name text so_far key first behind =
    let less = read_key-shorter old (Some name) mid key in
    let lesser = ap length first in
    let enough = so_far.enough in
    record {
      turns = so_far.turns - 1;
      enough = omega arith;
      same = λ depth.
          let read : converted of_json (value depth mid) ≡ Some (string text, new) =
          ap (λ ts. converted of_json (value depth ts)) first ∙ ap (converted of_json)
          (value_is depth (Token.string text ∷ new)) in
          so_far.same depth ∙ member_read (value depth) (texts done) so_far.turns name old mid new
          (string text) (omega arith) key read
          ∙ ap (λ found. converted (λ ms. of_members ms found) (members (value depth)
          (so_far.turns - 1) new)) (put_behind name text done behind);
    }

of_object : (o : Option (Members × List Token)) → converted pairs_of_object (parse_map object o)
    ≡ converted pairs_in o
of_object None = refl
of_object (Some p) = refl

pub pairs_end : (old whole rest new : List Token) (done : List (List ℕ × List ℕ)) → old
    ≡ Token.begin_object ∷ whole → PairsSoFar whole done rest → read_key rest ≡ Some (None, new)
    → Comes pairs_of_object 1 old done new
pairs_end old whole rest new done first so_far over depth le =
    let p = value (depth - 1) in
    let opened : converted of_json (value depth old) ≡ parse_map object
    (converted (λ ms. of_members ms no_members) (members p (length whole) whole)) =
    ap (λ ts. converted of_json (value depth ts)) first ∙ ap (converted of_json)
    (value-begin_object depth whole (omega arith)) ∙ converted-object
    (members p (length whole) whole) in
    ap (converted pairs_of_object) opened
    ∙ of_object (converted (λ ms. of_members ms no_members) (members p (length whole) whole))
    ∙ ap (converted pairs_in) (so_far.same (depth - 1) ∙ members_over p (texts done)
    so_far.turns rest new so_far.enough over)
    ∙ ap (option_map {U = List (List ℕ × List ℕ) × List Token} (λ b. (b, new)))
    (pairs_in_texts done)

-- ---- a row

pub row_comes : (old a b c d e new : List Token) (pairs : List (List ℕ × List ℕ))
    (samples : List (ℤ × ℤ)) → old ≡ Token.begin_object ∷ a → a ≡ Token.key (codes "labels") ∷ b
    → Comes pairs_of_object 1 b pairs c → c ≡ Token.key (codes "samples") ∷ d
    → Comes samples_of_list 2 d samples e → e ≡ Token.end_object ∷ new → is_labelled pairs
    ≡ true
    → Comes row_in 3 old (pairs, samples) new
row_comes old a b c d e new pairs samples first named labels_come then_named samples_come last
    labelled depth le =
    let p = value (depth - 1) in
    let x = came pairs_of_object 1 (depth - 1) b c pairs labels_come (omega arith) in
    let y = came samples_of_list 2 (depth - 1) d e samples samples_come (omega arith) in
    let less = read_shorter (depth - 1) b c x.0 x.1 in
    let lesser = read_shorter (depth - 1) d e y.0 y.1 in
    let long = ap length named in
    let longer = ap length then_named in
    let opened : converted of_json (value depth old) ≡ parse_map object
    (converted (λ ms. of_members ms no_members) (members p (length a) a)) =
    ap (λ ts. converted of_json (value depth ts)) first ∙ ap (converted of_json)
    (value-begin_object depth a (omega arith)) ∙ converted-object (members p (length a) a) in
    let one = member (codes "labels") x.0 no_members in
    let both = member (codes "labels") x.0 (member (codes "samples") y.0 no_members) in
    let two : converted (λ ms. of_members ms no_members) (members p (length a) a)
    ≡ Some (both, new) =
    member_read p no_members (length a) (codes "labels") a b c x.0 (omega arith) (ap read_key named)
    x.1
    ∙ member_read p one (length a - 1) (codes "samples") c d e y.0 (omega arith)
    (ap read_key then_named) y.1
    ∙ members_over p both (length a - 1 - 1) e new (omega arith) (ap read_key last) in
    meant row_in (converted of_json (value depth old)) (object both) new (pairs, samples)
    (opened ∙ ap (parse_map object) two)
    (row_when (object both) pairs samples refl (sym x.2) labelled (sym y.2))

-- ---- the whole text

pub text_writes : (text : List ℕ) (written : List WrittenRow) → IsUtf8 text
    → Comes rows_of_list 4 (tokens text) written [] → rows_in_body text ≡ Some written
text_writes text written utf8 comes =
    let d = came rows_of_list 4 127 (tokens text) [] written comes (omega arith) in
    ap (λ o. option_and_then rows_in (option_and_then as_array o)) (sym
    (json_when text d.0 utf8 (text_read text d.0 d.1))) ∙ d.2
