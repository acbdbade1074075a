-- What the tokens of one value, of a list or of an object's members give the whole.
use Rattle.std.proofs.Common.{◌≡◌, ℕ, ◌+◌, ◌-◌, ◌<◌, ◌≤◌, List, [], ◌∷◌, ◌++◌, length}
use Rattle.std.proofs.Common.{Option, None, Some, option_map, refl, sym, ap, ◌∙◌, arith, append-nil}
use Rattle.std.proofs.Common.{append_assoc, Greater}
use Rattle.std.specs.Prelude.{option_and_then}
use Rattle.std.specs.Cmp.Lexicographic.{slice_cmp}
use Rattle.std.specs.Ordering.{nat_cmp, ordering_reverse}
use Rattle.std.proofs.lemmas.Cmp.{nat_list_cmp_total}
use Rattle.json.specs.Token.{Token}
use Rattle.json.specs.Json.{parse_map, after_end_array, read_key, items, members, value}
use Rattle.json.proofs.Grammar.{left, value_is, value-begin_array, value-begin_object}
use Rattle.json.proofs.Grammar.{read_key-shorter, skip_value-shorter}
use Rattle.serde_json.specs.Data.{Num, Data, number, string, array, object, Items, no_items, item}
use Rattle.serde_json.specs.Data.{Members, no_members, member, put}
use Rattle.serde_json.specs.Find.{as_number, as_str}
use Rattle.serde_json.specs.Read.{of_json, of_items, of_members, converted, number_of}
use Rattle.labels.specs.Labels.{Labels}
use Rattle.reply_reader.specs.Replies.{each_said, list_said, texts_said}
use Rattle.reply_reader.specs.Usual.{Comes, pairs_said}
use Rattle.reply_reader.proofs.Conversions.{converted_some, converted-array, converted-object}
use Rattle.reply_reader.proofs.Conversions.{item_read, items_over, member_read, members_over}

-- ---- one value

-- the value that came, and what it says
pub came : {A : Type 0} (said : Data → Option A) (deep depth : ℕ) (old new : List Token) (a : A)
    → Comes said deep old a new → deep ≤ depth
    → (d : Data) × (converted of_json (value depth old) ≡ Some (d, new)) × (said d ≡ Some a)
came said deep depth old new a comes le = converted_some said (converted of_json
    (value depth old)) a new (comes depth le)

pub says : {A : Type 0} (said : Data → Option A) (read : Option (Data × List Token)) (d : Data)
    (new : List Token) (a : A) → read ≡ Some (d, new) → said d ≡ Some a
    → converted said read ≡ Some (a, new)
says said read d new a e is = ap (converted said) e ∙ ap (option_map (λ b. (b, new))) is

read_shorter : (depth : ℕ) (old new : List Token) (d : Data) → converted of_json (value depth old)
    ≡ Some (d, new) → length new < length old
read_shorter depth old new d e = let j = converted_some of_json (value depth old) d new e
    in skip_value-shorter depth old new (ap left j.1)

pub comes_shorter : {A : Type 0} (said : Data → Option A) (deep : ℕ) (old new : List Token)
    (a : A) → Comes said deep old a new → length new < length old
comes_shorter said deep old new a comes = let d = came said deep deep old new a comes
    (omega arith) in read_shorter deep old new d.0 d.1

-- what is said through what was said
pub comes_through : {A B : Type 0} (said : Data → Option A) (more : A → Option B) (deep : ℕ)
    (old new : List Token) (a : A) (b : B) → Comes said deep old a new → more a ≡ Some b
    → Comes (λ d. option_and_then more (said d)) deep old b new
comes_through said more deep old new a b comes is depth le =
    let d = came said deep depth old new a comes le in
    says (λ d. option_and_then more (said d)) (converted of_json (value depth old)) d.0 new b d.1
    (ap (option_and_then more) d.2 ∙ is)

-- a value does not begin with the bracket that closes an array
no_end : (depth : ℕ) (ts new : List Token) (d : Data) → converted of_json (value depth ts)
    ≡ Some (d, new) → after_end_array ts ≡ None
no_end depth [] new d e = refl
no_end depth (Token.begin_object ∷ ts) new d e = refl
no_end depth (Token.end_object ∷ ts) new d e = refl
no_end depth (Token.begin_array ∷ ts) new d e = refl
no_end depth (Token.end_array ∷ ts) new d e =
    let none : converted of_json (value depth (Token.end_array ∷ ts)) ≡ None = ap
    (converted of_json) (value_is depth (Token.end_array ∷ ts)) in
    absurd (cc)
no_end depth (Token.key s ∷ ts) new d e = refl
no_end depth (Token.string s ∷ ts) new d e = refl
no_end depth (Token.number s ∷ ts) new d e = refl
no_end depth (Token.boolean b ∷ ts) new d e = refl
no_end depth (Token.null ∷ ts) new d e = refl
no_end depth (Token.bad ∷ ts) new d e = refl

-- ---- numbers and texts

number_is : {A : Type 0} (what : Num → Option A) (o : Option Num) (a : A) (new : List Token)
    → option_and_then what o ≡ Some a
    → converted (λ d. option_and_then what (as_number d)) (option_map {U = Data × List Token}
    (λ d. (d, new)) (option_map number o)) ≡ Some (a, new)
number_is what None a new e = absurd (cc)
number_is {A} what (Some n) a new e = ap (option_map {U = A × List Token} (λ b. (b, new))) e

pub number_comes : {A : Type 0} (what : Num → Option A) (old new : List Token) (text : List ℕ)
    (a : A) → old ≡ Token.number text ∷ new → option_and_then what (number_of text) ≡ Some a
    → Comes (λ d. option_and_then what (as_number d)) 0 old a new
number_comes what old new text a first is depth le =
    ap (λ ts. converted (λ d. option_and_then what (as_number d)) (converted of_json
    (value depth ts))) first
    ∙ ap (λ o. converted (λ d. option_and_then what (as_number d)) (converted of_json o))
    (value_is depth (Token.number text ∷ new)) ∙ number_is what (number_of text) a new is

pub token_read : (depth : ℕ) (old new : List Token) (text : List ℕ) → old
    ≡ Token.string text ∷ new → converted of_json (value depth old) ≡ Some (string text, new)
token_read depth old new text first = ap (λ ts. converted of_json (value depth ts)) first
    ∙ ap (converted of_json) (value_is depth (Token.string text ∷ new))

pub text_comes : (old new : List Token) (text : List ℕ) → old ≡ Token.string text ∷ new
    → Comes as_str 0 old text new
text_comes old new text first depth le =
    says as_str (converted of_json (value depth old)) (string text) new text
    (token_read depth old new text first) refl

-- ---- a list, as far as it has been read

opened : (depth : ℕ) (old a : List Token) → old ≡ Token.begin_array ∷ a → 0 < depth
    → converted of_json (value depth old)
    ≡ parse_map array (converted of_items (items (value (depth - 1)) (length a) a))
opened depth old a first some =
    ap (λ ts. converted of_json (value depth ts)) first
    ∙ ap (converted of_json) (value-begin_array depth a some)
    ∙ converted-array (items (value (depth - 1)) (length a) a)

-- a list of two
pub two_read : (depth : ℕ) (old a b c new : List Token) (x y : Data) → old
    ≡ Token.begin_array ∷ a → 0 < depth → converted of_json (value (depth - 1) a) ≡ Some (x, b)
    → converted of_json (value (depth - 1) b) ≡ Some (y, c) → c ≡ Token.end_array ∷ new
    → converted of_json (value depth old) ≡ Some (array (item x (item y no_items)), new)
two_read depth old a b c new x y first some one other last =
    let p = value (depth - 1) in
    let less = read_shorter (depth - 1) a b x one in
    let lesser = read_shorter (depth - 1) b c y other in
    let two = item_read p (length a) a b x (omega arith) (no_end (depth - 1) a b x one) one
    ∙ ap (parse_map (item x)) (item_read p (length a - 1) b c y (omega arith)
    (no_end (depth - 1) b c y other) other
    ∙ ap (parse_map (item y)) (items_over p (length a - 1 - 1) c new (omega arith)
    (ap after_end_array last))) in
    opened depth old a first some ∙ ap (parse_map array) two

-- `done` is what the items before `rest` say
pub record ItemsSoFar {A : Type 0} (said : Data → Option A) (deep : ℕ) (whole : List Token)
    (done : List A) (rest : List Token) : Type 0 where
  pub turns : ℕ
  pub enough : length rest ≤ turns
  pub same : (depth : ℕ) → deep ≤ depth
      → converted (each_said said) (converted of_items (items (value depth) (length whole) whole))
      ≡ parse_map (λ xs. done ++ xs) (converted (each_said said) (converted of_items
      (items (value depth) turns rest)))

none_before : {A : Type 0} (r : Option (List A × List Token)) → r ≡ parse_map (λ xs. xs) r
none_before None = refl
none_before (Some p) = refl

one_before : {A : Type 0} (done : List A) (x : A) (r : Option (List A × List Token))
    → parse_map (λ xs. done ++ xs) (parse_map (λ xs. x ∷ xs) r) ≡ parse_map
    (λ xs. (done ++ x ∷ []) ++ xs) r
one_before done x None = refl
one_before done x (Some p) = ap (λ xs. Some (xs, p.1)) (sym (append_assoc done (x ∷ []) p.0))

one_taken : {A : Type 0} (x : A) (r : List Token) (o : Option (List A))
    → option_map (λ b. (b, r)) (option_map (λ xs. x ∷ xs) o) ≡ parse_map (λ xs. x ∷ xs)
    (option_map (λ b. (b, r)) o)
one_taken x r None = refl
one_taken x r (Some xs) = refl

pub items_begin : {A : Type 0} (said : Data → Option A) (deep : ℕ) (whole : List Token)
    → ItemsSoFar said deep whole [] whole
items_begin said deep whole = record {
  turns = length whole;
  enough = omega arith;
  same = λ depth le.
      none_before _;
}

module _ {A : Type 0} (said : Data → Option A) where
  with_one : (d : Data) (x : A) → said d ≡ Some x → (o : Option (Items × List Token))
      → converted (each_said said) (parse_map (item d) o)
      ≡ parse_map (λ xs. x ∷ xs) (converted (each_said said) o)
  with_one d x e None = refl
  with_one d x e (Some p) = rw e (one_taken x p.1 (each_said said p.0))

  pub items_turn : (deep : ℕ) (whole old new : List Token) (done next : List A) (x : A)
      → ItemsSoFar said deep whole done old → after_end_array old ≡ None
      → Comes said deep old x new → next ≡ done ++ x ∷ [] → ItemsSoFar said deep whole next new
  items_turn deep whole old new done next x so_far going comes pushed =
      let less = comes_shorter said deep old new x comes in
      let enough = so_far.enough in
      rw pushed (record {
        turns = so_far.turns - 1;
        enough = omega arith;
        same = λ depth le.
            let d = came said deep depth old new x comes le in
            so_far.same depth le
            ∙ ap (λ o. parse_map (λ xs. done ++ xs) (converted (each_said said) o))
            (item_read (value depth) so_far.turns old new d.0 (omega arith) going d.1)
            ∙ ap (parse_map (λ xs. done ++ xs)) (with_one d.0 x d.2 _) ∙ one_before done x _;
      })

  of_array : (o : Option (Items × List Token)) → converted (list_said said) (parse_map array o)
      ≡ converted (each_said said) o
  of_array None = refl
  of_array (Some p) = refl

  pub items_end : (deep : ℕ) (old whole rest new : List Token) (done : List A) → old
      ≡ Token.begin_array ∷ whole → ItemsSoFar said deep whole done rest → after_end_array rest
      ≡ Some new → Comes (list_said said) (deep + 1) old done new
  items_end deep old whole rest new done first so_far over depth le =
      let p = value (depth - 1) in
      let closed : converted (each_said said) (converted of_items (items p so_far.turns rest))
      ≡ Some ([], new) =
      ap (converted (each_said said)) (items_over p so_far.turns rest new so_far.enough over) in
      ap (converted (list_said said)) (opened depth old whole first (omega arith))
      ∙ of_array _ ∙ so_far.same (depth - 1) (omega arith)
      ∙ ap (parse_map (λ xs. done ++ xs)) closed
      ∙ ap (λ xs. Some (xs, new)) (append-nil done)

-- ---- an object of some members

object_opened : (depth : ℕ) (old a : List Token) → old ≡ Token.begin_object ∷ a → 0 < depth
    → converted of_json (value depth old) ≡ parse_map object
    (converted (λ ms. of_members ms no_members) (members (value (depth - 1)) (length a) a))
object_opened depth old a first some =
    ap (λ ts. converted of_json (value depth ts)) first
    ∙ ap (converted of_json) (value-begin_object depth a some)
    ∙ converted-object (members (value (depth - 1)) (length a) a)

-- the tokens `ts` are these names, each with its value, and the end of the object
abbrev pub AreMembers : ℕ → List Token → List (List ℕ × Data) → List Token → Type 0
AreMembers depth ts [] new = ts ≡ Token.end_object ∷ new
AreMembers depth ts (m ∷ ms) new =
    (mid next : List Token) × (ts ≡ Token.key m.0 ∷ mid)
    × (converted of_json (value depth mid) ≡ Some (m.1, next)) × AreMembers depth next ms new

abbrev pub put_all : List (List ℕ × Data) → Members → Members
put_all [] found = found
put_all (m ∷ ms) found = put_all ms (put m.0 m.1 found)

members_are : (depth n : ℕ) (ts new : List Token) (ms : List (List ℕ × Data)) (found : Members)
    → length ts ≤ n → AreMembers depth ts ms new
    → converted (λ ms. of_members ms found) (members (value depth) n ts)
    ≡ Some (put_all ms found, new)
members_are depth n ts new [] found enough last =
    members_over (value depth) found n ts new enough (ap read_key last)
members_are depth n ts new (m ∷ ms) found enough are =
    let long = ap length are.2 in
    let less = read_shorter depth are.0 are.1 m.1 are.3 in
    member_read (value depth) found n m.0 ts are.0 are.1 m.1 (omega arith) (ap read_key are.2) are.3
    ∙ members_are depth (n - 1) are.1 new ms (put m.0 m.1 found) (omega arith) are.4

pub object_read : (depth : ℕ) (old a new : List Token) (ms : List (List ℕ × Data)) → old
    ≡ Token.begin_object ∷ a → 0 < depth → AreMembers (depth - 1) a ms new
    → converted of_json (value depth old) ≡ Some (object (put_all ms no_members), new)
object_read depth old a new ms first some are =
    object_opened depth old a first some
    ∙ ap (parse_map object)
    (members_are (depth - 1) (length a) a new ms no_members (omega arith) are)

-- ---- the pairs of an object, as far as they have been read

-- the name is behind each of the pairs
abbrev pub IsBehind : List ℕ → Labels → Type 0
IsBehind name [] = Unit {0}
IsBehind name (p ∷ ps) = (slice_cmp nat_cmp name p.0 ≡ Greater) × IsBehind name ps

behind_more : (name : List ℕ) (ps : Labels) (p : List ℕ × List ℕ) → IsBehind name ps
    → slice_cmp nat_cmp name p.0 ≡ Greater → IsBehind name (ps ++ p ∷ [])
behind_more name [] p all one = (one, tt)
behind_more name (q ∷ ps) p all one = (all.0, behind_more name ps p all.1 one)

behind_through : (a b c : List ℕ) → slice_cmp nat_cmp a b ≡ Greater → slice_cmp nat_cmp b c
    ≡ Greater → slice_cmp nat_cmp a c ≡ Greater
behind_through a b c h k =
    nat_list_cmp_total.antisymm a c ∙ ap ordering_reverse (nat_list_cmp_total.trans c b a
    (nat_list_cmp_total.antisymm c b ∙ ap ordering_reverse k)
    (nat_list_cmp_total.antisymm b a ∙ ap ordering_reverse h))

-- the members that pairs of names and texts are
abbrev texts : Labels → Members
texts [] = no_members
texts (p ∷ ps) = member p.0 (string p.1) (texts ps)

texts_said-texts : (ps : Labels) → texts_said (texts ps) ≡ Some ps
texts_said-texts [] = refl
texts_said-texts (p ∷ ps) = rw (texts_said-texts ps)

-- a name that is behind the others goes last
put_behind : (name text : List ℕ) (ps : Labels) → IsBehind name ps
    → put name (string text) (texts ps) ≡ texts (ps ++ (name, text) ∷ [])
put_behind name text [] all = refl
put_behind name text (p ∷ ps) all = rw (all.0) (ap (member p.0 (string p.1))
    (put_behind name text ps all.1))

pub record PairsSoFar (whole : List Token) (last : List ℕ) (done : Labels) (rest : List Token) :
    Type 0 where
  pub turns : ℕ
  pub enough : length rest ≤ turns
  pub behind : (name : List ℕ) → slice_cmp nat_cmp name last ≡ Greater → IsBehind name done
  pub same : (depth : ℕ) → converted (λ ms. of_members ms no_members) (members (value depth)
      (length whole) whole) ≡ converted (λ ms. of_members ms (texts done))
      (members (value depth) turns rest)

pub pairs_begin : (whole : List Token) (last : List ℕ) → PairsSoFar whole last [] whole
pairs_begin whole last = record {
  turns = length whole;
  enough = omega arith;
  behind = λ name above. tt;
  same = λ depth. refl;
}

pub pairs_turn : (whole old mid new : List Token) (last name text : List ℕ) (done next : Labels)
    → PairsSoFar whole last done old → read_key old ≡ Some (Some name, mid)
    → mid ≡ Token.string text ∷ new → slice_cmp nat_cmp name last ≡ Greater
    → next ≡ done ++ (name, text) ∷ [] → PairsSoFar whole name next new
pairs_turn whole old mid new last name text done next so_far key first above pushed =
    let less = read_key-shorter old (Some name) mid key in
    let lesser = ap length first in
    let enough = so_far.enough in
    rw pushed (record {
      turns = so_far.turns - 1;
      enough = omega arith;
      behind = λ n beyond.
          behind_more n done (name, text)
          (so_far.behind n (behind_through n name last beyond above)) beyond;
      same = λ depth.
          so_far.same depth ∙ member_read (value depth) (texts done) so_far.turns name old mid new
          (string text) (omega arith) key (token_read depth mid new text first)
          ∙ ap (λ found. converted (λ ms. of_members ms found) (members (value depth)
          (so_far.turns - 1) new)) (put_behind name text done (so_far.behind name above));
    })

of_object : (o : Option (Members × List Token)) → converted pairs_said (parse_map object o)
    ≡ converted texts_said o
of_object None = refl
of_object (Some p) = refl

pub pairs_end : (old whole rest new : List Token) (last : List ℕ) (done : Labels) → old
    ≡ Token.begin_object ∷ whole → PairsSoFar whole last done rest → read_key rest
    ≡ Some (None, new) → Comes pairs_said 1 old done new
pairs_end old whole rest new last done first so_far over depth le =
    let p = value (depth - 1) in
    ap (converted pairs_said) (object_opened depth old whole first (omega arith))
    ∙ of_object (converted (λ ms. of_members ms no_members) (members p (length whole) whole))
    ∙ ap (converted texts_said) (so_far.same (depth - 1) ∙ members_over p (texts done)
    so_far.turns rest new so_far.enough over)
    ∙ ap (option_map {U = Labels × List Token} (λ b. (b, new))) (texts_said-texts done)
