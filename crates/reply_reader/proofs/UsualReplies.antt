-- What the tokens of a usual reply say, object by object.
use Rattle.std.proofs.Common.{◌≡◌, ℕ, ℤ, ◌-◌, List, [], ◌∷◌, Option, Some, refl, ap}
use Rattle.std.proofs.Common.{◌∙◌, arith, true, codes, IsUtf8, option_map}
use Rattle.std.specs.Prelude.{option_and_then}
use Rattle.json.specs.Token.{Token}
use Rattle.json.specs.Json.{value}
use Rattle.json.specs.Lex.{tokens}
use Rattle.json.proofs.Grammar.{value_is}
use Rattle.serde_json.specs.Data.{Data, null, boolean, number, string, array, object, item}
use Rattle.serde_json.specs.Data.{no_items, no_members}
use Rattle.serde_json.specs.Find.{as_u64}
use Rattle.serde_json.specs.Read.{of_json, converted, number_of}
use Rattle.labels.specs.Labels.{Labels}
use Rattle.labels.specs.Rows.{Row}
use Rattle.postings.specs.declared.part_name.PartName.{PartName}
use Rattle.postings.specs.declared.part_name.PartName.TheVariants.{Block}
use Rattle.cover.specs.declared.certificate.Interval.{Interval}
use Rattle.cover.specs.declared.certificate.Verdict.{Verdict}
use Rattle.cover.specs.declared.certificate.Verdict.TheVariants.{Rejected}
use Rattle.reply_reader.specs.Replies.{Told, searched, skipped, both, integer_said, sample_said}
use Rattle.reply_reader.specs.Replies.{natural_said, reference_said, verdict_said, interval_said}
use Rattle.reply_reader.specs.Replies.{list_said, labels_said, row_said, part_name_said, part_said}
use Rattle.reply_reader.specs.Replies.{reply_said, text_said, block_number, verdict_named}
use Rattle.reply_reader.specs.Usual.{Comes}
use Rattle.reply_reader.proofs.Conversions.{text_read}
use Rattle.reply_reader.proofs.Replying.{tree_when}
use Rattle.reply_reader.proofs.UsualTexts.{came, says, token_read, number_comes, two_read}
use Rattle.reply_reader.proofs.UsualTexts.{object_read, put_all}

both_said : {A B : Type 0} (o : Option A) (p : Option B) (a : A) (b : B) → o ≡ Some a → p ≡ Some b
    → both o p ≡ Some (a, b)
both_said o p a b e f = rw (e, f)

pub sample_comes : (old a b c new : List Token) (t v : ℤ) → old ≡ Token.begin_array ∷ a
    → Comes integer_said 0 a t b → Comes integer_said 0 b v c → c ≡ Token.end_array ∷ new
    → Comes sample_said 1 old (t, v) new
sample_comes old a b c new t v first time value_comes last depth le =
    let x = came integer_said 0 (depth - 1) a b t time (omega arith) in
    let y = came integer_said 0 (depth - 1) b c v value_comes (omega arith) in
    says sample_said (converted of_json (value depth old)) (array (item x.0 (item y.0 no_items)))
    new (t, v) (two_read depth old a b c new x.0 y.0 first (omega arith) x.1 y.1 last)
    (both_said (integer_said x.0) (integer_said y.0) t v x.2 y.2)

pub row_comes : (old a b c d e new : List Token) (labels : Labels) (samples : List (ℤ × ℤ))
    → old ≡ Token.begin_object ∷ a → a ≡ Token.key (codes "labels") ∷ b
    → Comes labels_said 1 b labels c → c ≡ Token.key (codes "samples") ∷ d
    → Comes (list_said sample_said) 2 d samples e → e ≡ Token.end_object ∷ new
    → Comes row_said 3 old (labels, samples) new
row_comes old a b c d e new labels samples first named x_comes then_named y_comes last depth le =
    let x = came labels_said 1 (depth - 1) b c labels x_comes (omega arith) in
    let y = came (list_said sample_said) 2 (depth - 1) d e samples y_comes (omega arith) in
    let ms : List (List ℕ × Data) = (codes "labels", x.0) ∷ (codes "samples", y.0) ∷ [] in
    says row_said (converted of_json (value depth old))
    (object (put_all ms no_members)) new (labels, samples)
    (object_read depth old a new ms first (omega arith)
    (b, c, named, x.1, (d, e, then_named, y.1, last)))
    (both_said (labels_said x.0) (list_said sample_said y.0) labels samples x.2 y.2)

interval_said_by : (f : Option ℕ) (u : Option ℕ) (v : Option Verdict) (from until : ℕ)
    (verdict : Verdict) → f ≡ Some from → u ≡ Some until → v ≡ Some verdict
    → option_and_then (λ from. option_and_then (λ until. option_map {U = Interval} (λ verdict.
    record { from = from; until = until; verdict = verdict }) v) u) f
    ≡ Some (record { from = from; until = until; verdict = verdict })
interval_said_by f u v from until verdict e g h = rw (e, g, h)

pub interval_comes : (old a b c d e g h new : List Token) (from until : ℕ) (verdict : Verdict)
    → old ≡ Token.begin_object ∷ a → a ≡ Token.key (codes "from") ∷ b
    → Comes reference_said 0 b from c → c ≡ Token.key (codes "until") ∷ d
    → Comes natural_said 0 d until e → e ≡ Token.key (codes "verdict") ∷ g
    → Comes verdict_said 0 g verdict h → h ≡ Token.end_object ∷ new
    → Comes interval_said 1 old (record { from = from; until = until; verdict = verdict }) new
interval_comes old a b c d e g h new from until verdict first key_x x_comes key_y y_comes key_z
    z_comes last depth le =
    let x = came reference_said 0 (depth - 1) b c from x_comes (omega arith) in
    let y = came natural_said 0 (depth - 1) d e until y_comes (omega arith) in
    let z = came verdict_said 0 (depth - 1) g h verdict z_comes (omega arith) in
    let ms : List (List ℕ × Data) = (codes "from", x.0) ∷ (codes "until", y.0)
    ∷ (codes "verdict", z.0) ∷ [] in
    says interval_said (converted of_json (value depth old)) (object (put_all ms no_members)) new
    (record { from = from; until = until; verdict = verdict })
    (object_read depth old a new ms first (omega arith)
    (b, c, key_x, x.1, (d, e, key_y, y.1, (g, h, key_z, z.1, last))))
    (interval_said_by (reference_said x.0) (natural_said y.0) (verdict_said z.0) from until verdict
    x.2 y.2 z.2)

searched_said_by : (p : Option PartName) (r : Option (List Row)) (i : Option (List Interval))
    (s : Option (List ℕ)) (part : PartName) (rows : List Row) (intervals : List Interval)
    (separators : List ℕ) → p ≡ Some part → r ≡ Some rows → i ≡ Some intervals
    → s ≡ Some separators
    → option_and_then (λ part. option_and_then (λ rows. option_and_then (λ intervals. option_map
    (λ separators. searched part rows intervals separators) s) i) r) p
    ≡ Some (searched part rows intervals separators)
searched_said_by p r i s part rows intervals separators e f g h = rw (e, f, g, h)

pub searched_comes : (a b c d e g h j new : List Token) (intervals : List Interval)
    (part : PartName) (rows : List Row) (separators : List ℕ)
    → Comes (list_said interval_said) 2 a intervals b → b ≡ Token.key (codes "part") ∷ c
    → Comes part_name_said 0 c part d → d ≡ Token.key (codes "rows") ∷ e
    → Comes (list_said row_said) 4 e rows g → g ≡ Token.key (codes "separators") ∷ h
    → Comes (list_said reference_said) 1 h separators j → j ≡ Token.end_object ∷ new
    → Comes part_said 5 (Token.begin_object ∷ Token.key (codes "intervals") ∷ a)
    (searched part rows intervals separators) new
searched_comes a b c d e g h j new intervals part rows separators w_comes key_x x_comes key_y
    y_comes key_z z_comes last depth le =
    let old = Token.begin_object ∷ Token.key (codes "intervals") ∷ a in
    let w = came (list_said interval_said) 2 (depth - 1) a b intervals w_comes (omega arith) in
    let x = came part_name_said 0 (depth - 1) c d part x_comes (omega arith) in
    let y = came (list_said row_said) 4 (depth - 1) e g rows y_comes (omega arith) in
    let z = came (list_said reference_said) 1 (depth - 1) h j separators z_comes (omega arith) in
    let ms : List (List ℕ × Data) = (codes "intervals", w.0) ∷ (codes "part", x.0)
    ∷ (codes "rows", y.0) ∷ (codes "separators", z.0) ∷ [] in
    says part_said (converted of_json (value depth old)) (object (put_all ms no_members)) new
    (searched part rows intervals separators)
    (object_read depth old (Token.key (codes "intervals") ∷ a) new ms refl (omega arith)
    (a, b, refl, w.1, (c, d, key_x, x.1, (e, g, key_y, y.1, (h, j, key_z, z.1, last)))))
    (searched_said_by (part_name_said x.0) (list_said row_said y.0) (list_said interval_said w.0)
    (list_said reference_said z.0) part rows intervals separators x.2 y.2 w.2 z.2)

yes_read : (depth : ℕ) (old new : List Token) → old ≡ Token.boolean true ∷ new
    → converted of_json (value depth old) ≡ Some (boolean true, new)
yes_read depth old new first = ap (λ ts. converted of_json (value depth ts)) first
    ∙ ap (converted of_json) (value_is depth (Token.boolean true ∷ new))

skipped_said_by : (p : Option PartName) (n : ℕ) → p ≡ Some (Block n)
    → option_map (λ n. skipped n)
    (option_and_then block_number p) ≡ Some (skipped n)
skipped_said_by p n e = rw e

pub skipped_comes : (a b c d new : List Token) (n : ℕ)
    → Comes part_name_said 0 a (Block n) b → b ≡ Token.key (codes "skipped") ∷ c
    → c ≡ Token.boolean true ∷ d → d ≡ Token.end_object ∷ new
    → Comes part_said 5 (Token.begin_object ∷ Token.key (codes "part") ∷ a) (skipped n) new
skipped_comes a b c d new n x_comes key_y yea last depth le =
    let old = Token.begin_object ∷ Token.key (codes "part") ∷ a in
    let x = came part_name_said 0 (depth - 1) a b (Block n) x_comes (omega arith) in
    let ms : List (List ℕ × Data) = (codes "part", x.0) ∷ (codes "skipped", boolean true) ∷ [] in
    says part_said (converted of_json (value depth old)) (object (put_all ms no_members)) new
    (skipped n)
    (object_read depth old (Token.key (codes "part") ∷ a) new ms refl (omega arith)
    (a, b, refl, x.1, (c, d, key_y, yes_read (depth - 1) c d yea, last)))
    (skipped_said_by (part_name_said x.0) n x.2)

pub reply_comes : (old a b c d e new : List Token) (parts : List Told) (rows : List Row)
    → old ≡ Token.begin_object ∷ a → a ≡ Token.key (codes "parts") ∷ b
    → Comes (list_said part_said) 6 b parts c → c ≡ Token.key (codes "rows") ∷ d
    → Comes (list_said row_said) 4 d rows e → e ≡ Token.end_object ∷ new
    → Comes reply_said 7 old (parts, rows) new
reply_comes old a b c d e new parts rows first named x_comes then_named y_comes last depth le =
    let x = came (list_said part_said) 6 (depth - 1) b c parts x_comes (omega arith) in
    let y = came (list_said row_said) 4 (depth - 1) d e rows y_comes (omega arith) in
    let ms : List (List ℕ × Data) = (codes "parts", x.0) ∷ (codes "rows", y.0) ∷ [] in
    says reply_said (converted of_json (value depth old)) (object (put_all ms no_members)) new
    (parts, rows)
    (object_read depth old a new ms first (omega arith)
    (b, c, named, x.1, (d, e, then_named, y.1, last)))
    (both_said (list_said part_said x.0) (list_said row_said y.0) parts rows x.2 y.2)

pub text_says : (text : List ℕ) (told : List Told × List Row) → IsUtf8 text
    → Comes reply_said 7 (tokens text) told [] → text_said text ≡ Some told
text_says text told utf8 comes =
    let d = came reply_said 7 127 (tokens text) [] told comes (omega arith) in
    ap (option_and_then reply_said) (tree_when text d.0 utf8 (text_read text d.0 d.1)) ∙ d.2

-- ---- a verdict

pub named_comes : (old new : List Token) (text : List ℕ) (verdict : Verdict) → old
    ≡ Token.string text ∷ new → verdict_named text ≡ Some verdict
    → Comes verdict_said 0 old verdict new
named_comes old new text verdict first is depth le =
    says verdict_said (converted of_json (value depth old)) (string text) new verdict
    (token_read depth old new text first) is

rejected_said : (d : Data) (n : ℕ) → natural_said d ≡ Some n → verdict_said d ≡ Some (Rejected n)
rejected_said null n e = absurd (cc)
rejected_said (boolean b) n e = absurd (cc)
rejected_said (number m) n e = rw e
rejected_said (string s) n e = absurd (cc)
rejected_said (array ds) n e = absurd (cc)
rejected_said (object ms) n e = absurd (cc)

pub rejected_comes : (old new : List Token) (text : List ℕ) (n : ℕ) → old
    ≡ Token.number text ∷ new → option_and_then as_u64 (number_of text) ≡ Some n
    → Comes verdict_said 0 old (Rejected n) new
rejected_comes old new text n first is depth le =
    let d = came natural_said 0 depth old new n (number_comes as_u64 old new text n first is) le in
    says verdict_said (converted of_json (value depth old)) d.0 new (Rejected n) d.1
    (rejected_said d.0 n d.2)
