-- The fields of a line, one after another: what one leaves to be read, and what each return of the code says. Assumes nothing.
use Prim.Native.Nat.{ℕ, zero, suc, ◌+◌, ◌≤◌, ◌<◌}
use native.Mathlib.Decide.{ℕ_discrete}
use native.Mathlib.Numerals.{add-one}
use native.Mathlib.Omega.{arith}
use mathlib.Core.Bool.{Bool, true, false, cond, ◌&&◌, ◌||◌}
use mathlib.Core.Path.{◌≡◌, refl, sym, ap, ap₂, ◌∙◌, subst}
use mathlib.Core.List.{List, [], ◌∷◌, ◌++◌, append-nil, map}
use mathlib.Core.Option
use mathlib.Core.Option.{Option, none, some}
use borrow.Author.Rules.{rules}
use borrow.Author.Tests.{not-true, not-false, ne_eqb}
use lib.Dec.{eqb, leb}
use lib.IntN.{ℤ, pos, nat_abs}
use lib.ListN.{length, take, drop, get_or, set, length-drop, length-set}
use lib.Seq.{append_snoc, drop-drop, take-suc-set, get_or-set_same, get_or-set_other}
use mir.Syntax.{w64}
use mir.Val.{to_z, of_z}
use Rattle.fields.specs.Pieces.{Bytes, tab, line_feed, split}
use Rattle.fields.specs.Numbers.{number_of, without_minus, amount_of}
use Rattle.fields.specs.Digits.{digits_in, amount_in}
use Rattle.fields.specs.Places.{begins, size_of, number_to, amount_to, number_at, amount_at, field_at}
use Rattle.fields.specs.declared.FieldAt.{FieldAt}
use Rattle.fields.proofs.SpanLaws.{digits_in_more, digits_in_other, digit_by_digit, amount_in_plain}
use Rattle.fields.proofs.NumberLaws.{number_below, amount_below}
use Rattle.fields.proofs.FieldLaws.{begins_is, given_is}
use Rattle.fields.proofs.PieceLaws.{split_some}
use Rattle.rows.specs.Fields.{Holds, operand, amount, both, read_fields}
use Rattle.rows.proofs.FieldLaws as F
use Rattle.rows.proofs.FieldLaws.{Held}
use Rattle.std.specs.Prelude as Std
use Rattle.std.specs.Prelude.{Some, None, Result, Err}
use Rattle.model.specs.declared.Fault.TheVariants.{NotOfForm}
use Rattle.model.specs.declared.Refusal.{Refusal}
use Rattle.forms.specs.declared.FieldsAsked.{FieldsAsked}
use Rattle.forms.specs.declared.Numbers.{Numbers}
use Rattle.forms.specs.Along.{line_in, is_closed, numbers_in}
use Rattle.forms.specs.Asked.{signed_at, largest_at, outside_at, held_as, field_after, Asked, asked_at, described, signed_in, largest_in, outside_in, read_as, size_in, any_outside, all_held, numbers_from, numbers_to, unless_outside}
use Rattle.forms.proofs.AlongLaws.{number_field, amount_field}
use Rattle.forms.proofs.TextLaws.{Small, small_held}
use Rattle.forms.proofs.RangeLaws.{signed_in_lem, largest_in_lem, outside_in_lem}

-- ---- the byte that is asked for
no_tab : (f : Holds) (fs : List Holds) (t : Bytes) → begins tab t ≡ false → numbers_in (f ∷ fs) t ≡ none
unfolding numbers_in begins read_fields
no_tab f fs [] e = refl
no_tab f fs (b ∷ bs) e = rw e (go (eqb b 10))
  where
    go : (t : Bool) → cond t (read_fields (f ∷ fs) []) none ≡ none
    go true = refl
    go false = refl

pub no_line_feed : (t : Bytes) → begins line_feed t ≡ false → numbers_in [] t ≡ none
unfolding numbers_in begins read_fields
no_line_feed [] e = refl
no_line_feed (b ∷ bs) e = rw e (go (eqb b tab && is_closed bs) (split tab (line_in bs)) (split_some tab (line_in bs)))
  where
    go : (t : Bool) (ps : List Bytes) → 1 ≤ length ps → cond t (read_fields [] ps) none ≡ none
    go true [] h = absurd (omega arith)
    go true (p ∷ ps) h = refl
    go false ps h = refl

pub line_feed_lem : (t : Bytes) → begins line_feed t ≡ true → numbers_in [] t ≡ some []
unfolding numbers_in read_fields
line_feed_lem t e = ap (numbers_in []) (begins_is line_feed t e)

pub line_feed_here : (t : Bytes) → begins line_feed t ≡ true → length (line_in t) ≡ 0
unfolding line_in
line_feed_here t e = ap (λ (u : Bytes). length (line_in u)) (begins_is line_feed t e)

line_tab : (u : Bytes) → length (line_in (9 ∷ u)) ≡ suc (length (line_in u))
unfolding line_in
line_tab u = refl

-- ---- digits are no line feed: the line goes on as far as before
line_digits : (t : Bytes) → length (line_in t) ≡ digits_in t + length (line_in (drop (digits_in t) t))
unfolding line_in digits_in
line_digits =
    digit_by_digit (λ t. length (line_in t) ≡ digits_in t + length (line_in (drop (digits_in t) t))) (omega arith)
    (λ b bs d ih. rw (digits_in_more b bs d, ne_eqb b 10 (λ e. omega arith)) (omega arith))
    (λ b bs n. rw (digits_in_other b bs n) (omega arith))

line_amount : (t : Bytes) → length (line_in t) ≡ amount_in t + length (line_in (drop (amount_in t) t))
unfolding line_in amount_in
line_amount [] = omega arith
line_amount (b ∷ bs) =
    elim (ℕ_discrete b 45) [ yes e ↦ rw e (omega (arith, line_digits bs)) | no n ↦ rw (amount_in_plain b bs n) (line_digits (b ∷ bs)) ]

-- where the line ends
abbrev pub line_end : Bytes → ℕ → ℕ
line_end s at = at + length (line_in (drop at s))

abbrev holds : Bool → Holds
holds b = cond b (amount 0) operand

abbrev machine : ℤ → ℤ
machine z = to_z w64 (of_z w64 z)

-- ---- a field that was read: a small number, against the caller's largest; the line ends where it did, and the other fields are left to be read
record FieldRead (b : Bool) (largest : ℕ) (s : Bytes) (at : ℕ) (size : Std.Option ℤ) (end : ℕ) : Type 0 where
  number : ℤ
  held : Held (holds b) number
  sized : size ≡ size_of largest number
  small : Small number
  line : line_end s at ≡ line_end s end
  left : (fs : List Holds) → numbers_in (holds b ∷ fs) (9 ∷ drop at s) ≡ both (some number) (numbers_in fs (drop end s))

module _ (largest : ℕ) (s : Bytes) (at : ℕ) where
  amount_left : (fs : List Holds)
      → numbers_in (amount 0 ∷ fs) (9 ∷ drop at s)
      ≡ both (amount_of (take (amount_in (drop at s)) (drop at s))) (numbers_in fs (drop (at + amount_in (drop at s)) s))
  amount_left fs = amount_field 0 fs (drop at s) ∙ rw (drop-drop (amount_in (drop at s)) at s)

  number_left : (fs : List Holds)
      → numbers_in (operand ∷ fs) (9 ∷ drop at s) ≡ both (without_minus (number_of (take (digits_in (drop at s)) (drop at s)))) (numbers_in fs (drop (at + digits_in (drop at s)) s))
  number_left fs = number_field fs (drop at s) ∙ rw (drop-drop (digits_in (drop at s)) at s)

  field_read : (b : Bool) {found : FieldAt} → field_at b largest s at ≡ Some found → FieldRead b largest s at found.number found.end
  unfolding number_at amount_at
  field_read true {found} e = go (amount_of (take (amount_in (drop at s)) (drop at s))) refl e
    where
      go : (r : Option ℤ) → amount_of (take (amount_in (drop at s)) (drop at s)) ≡ r → amount_to largest (at + amount_in (drop at s)) r ≡ Some found
          → FieldRead true largest s at found.number found.end
      go (some t) q e =
          let same = given_is e in
          let place : at + amount_in (drop at s) ≡ found.end = ap (λ (f : FieldAt). f.end) same in
          record {
            number = t;
            held = tt;
            sized = sym (ap (λ (f : FieldAt). f.number) same);
            small = amount_below (take (amount_in (drop at s)) (drop at s)) q;
            line = rw (← place, ← drop-drop (amount_in (drop at s)) at s) (omega (arith, line_amount (drop at s)));
            left = λ fs. amount_left fs ∙ rw (q, place);
          }
      go none q e = absurd (let z : ◌≡◌ {A = ℕ} 0 1 = cc in omega arith)
  field_read false {found} e = go (number_of (take (digits_in (drop at s)) (drop at s))) refl e
    where
      go : (r : Option ℕ) → number_of (take (digits_in (drop at s)) (drop at s)) ≡ r → number_to largest (at + digits_in (drop at s)) r ≡ Some found
          → FieldRead false largest s at found.number found.end
      go (some n) q e =
          let same = given_is e in
          let place : at + digits_in (drop at s) ≡ found.end = ap (λ (f : FieldAt). f.end) same in
          record {
            number = pos n;
            held = F.number n;
            sized = sym (ap (λ (f : FieldAt). f.number) same);
            small = number_below (take (digits_in (drop at s)) (drop at s)) q;
            line = rw (← place, ← drop-drop (digits_in (drop at s)) at s) (omega (arith, line_digits (drop at s)));
            left = λ fs. number_left fs ∙ rw (q, place);
          }
      go none q e = absurd (let z : ◌≡◌ {A = ℕ} 0 1 = cc in omega arith)

  field_none : (b : Bool) → field_at b largest s at ≡ None → (fs : List Holds) → numbers_in (holds b ∷ fs) (9 ∷ drop at s) ≡ none
  unfolding number_at amount_at
  field_none true e fs = amount_left fs ∙ go (amount_of (take (amount_in (drop at s)) (drop at s))) e
    where
      go : (r : Option ℤ) → amount_to largest (at + amount_in (drop at s)) r ≡ None → both r (numbers_in fs (drop (at + amount_in (drop at s)) s)) ≡ none
      go (some t) e = absurd (let z : ◌≡◌ {A = ℕ} 0 1 = cc in omega arith)
      go none e = refl
  field_none false e fs = number_left fs ∙ go (number_of (take (digits_in (drop at s)) (drop at s))) e
    where
      go : (r : Option ℕ) → number_to largest (at + digits_in (drop at s)) r ≡ None → both (without_minus r) (numbers_in fs (drop (at + digits_in (drop at s)) s)) ≡ none
      go (some n) e = absurd (let z : ◌≡◌ {A = ℕ} 0 1 = cc in omega arith)
      go none e = refl

-- ---- one field, after a tab
tab_here : (s : Bytes) (at : ℕ) → begins tab (drop at s) ≡ true → drop at s ≡ 9 ∷ drop (at + 1) s
tab_here s at h = begins_is 9 (drop at s) h ∙ ap (λ (u : Bytes). 9 ∷ u) (drop-drop 1 at s)

module _ (b : Bool) (largest : ℕ) (s : Bytes) (at : ℕ) (t : Bool) (q : t ≡ begins tab (drop at s)) where
  pub no_field : t ≡ false → None ≡ field_after b largest s at
  unfolding field_after
  no_field h = rw (← q, h)

  pub field_there : t ≡ true → (r : Std.Option FieldAt) → r ≡ field_at b largest s (at + 1) → r ≡ field_after b largest s at
  unfolding field_after
  field_there h r e = rw (← q, h) e

  pub field_within : t ≡ true → at + 1 ≤ length s
  field_within h = omega (arith, length-drop at s, ap length (tab_here s at (sym q ∙ h)))

pub ruleset field_laws = (rules, not-true, not-false, no_field, field_there, field_within)

-- a field that was read after a tab, and what it leaves to be read
pub record Stepped (f : Asked) (s : Bytes) (at : ℕ) (size : Std.Option ℤ) (end : ℕ) : Type 0 where
  pub number : ℤ
  pub held : Held (read_as f) number
  pub sized : size ≡ size_in f number
  pub small : Small number
  pub line : line_end s at ≡ line_end s end
  pub left : (fs : List Holds) → numbers_in (read_as f ∷ fs) (drop at s) ≡ both (some number) (numbers_in fs (drop end s))

module _ (f : Asked) (s : Bytes) (at : ℕ) (r : Std.Option FieldAt) (q : r ≡ field_after (signed_in f) (largest_in f) s at) where
  pub stepped : {found : FieldAt} → r ≡ Some found → Stepped f s at found.number found.end
  unfolding field_after
  stepped {found} e = go (begins tab (drop at s)) refl (sym q ∙ e)
    where
      go : (t : Bool) → begins tab (drop at s) ≡ t → cond t (field_at (signed_in f) (largest_in f) s (at + 1)) None ≡ Some found → Stepped f s at found.number found.end
      go false h v = absurd (let z : ◌≡◌ {A = ℕ} 0 1 = cc in omega arith)
      go true h v =
          let field = field_read (largest_in f) s (at + 1) (signed_in f) v in
          record {
            number = field.number;
            held = field.held;
            sized = field.sized;
            small = field.small;
            line = omega (arith, ap (λ (u : Bytes). length (line_in u)) (tab_here s at h), line_tab (drop (at + 1) s), field.line);
            left = λ fs. ap (numbers_in (read_as f ∷ fs)) (tab_here s at h) ∙ field.left fs;
          }

  pub missing : r ≡ None → (fs : List Holds) → numbers_in (read_as f ∷ fs) (drop at s) ≡ none
  unfolding field_after
  missing e fs = go (begins tab (drop at s)) refl (sym q ∙ e)
    where
      go : (t : Bool) → begins tab (drop at s) ≡ t → cond t (field_at (signed_in f) (largest_in f) s (at + 1)) None ≡ None
          → numbers_in (read_as f ∷ fs) (drop at s) ≡ none
      go false h v = no_tab (read_as f) fs (drop at s) h
      go true h v = ap (numbers_in (read_as f ∷ fs)) (tab_here s at h) ∙ field_none (largest_in f) s (at + 1) (signed_in f) v fs

held_small : (l : ℕ) (size : Std.Option ℤ) (z : ℤ) → size ≡ size_of l z → Small z → Small (held_as size)
held_small l size z e h = subst (λ (x : Std.Option ℤ). Small (held_as x)) (sym e) (go (leb (nat_abs z) l))
  where
    go : (b : Bool) → Small (held_as (cond b (Some z) None))
    go true = h
    go false = omega arith

-- ---- the loop's invariant: the numbers of the fields before field i are read, and held as they are held; the others are 0; what is left of the line is
-- read from `at` on
pub record Reading (asked : FieldsAsked) (s : Bytes) (start : ℕ) (numbers : List ℤ) (outside : Bool) (at i : ℕ) : Type 0 where
  few : asked.count ≤ 3
  within : i ≤ asked.count
  wide : length numbers ≡ 3
  small : (k : ℕ) → Small (get_or numbers k (pos 0))
  free : (k : ℕ) → i ≤ k → get_or numbers k (pos 0) ≡ pos 0
  line : line_end s start ≡ line_end s at
  so_far : List ℤ
  left : numbers_in (map read_as (described asked)) (drop start s)
      ≡ Option.map (λ ms. so_far ++ ms) (numbers_in (map read_as (drop i (described asked))) (drop at s))
  found : (ms : List ℤ) → any_outside (described asked) (so_far ++ ms)
      ≡ (outside || any_outside (drop i (described asked)) ms)
  held : (ms : List ℤ) → all_held (described asked) (so_far ++ ms)
      ≡ take i numbers ++ all_held (drop i (described asked)) ms

pub reading_start : (asked : FieldsAsked) (s : Bytes) (start : ℕ) → asked.count ≤ 3
    → Reading asked s start (pos 0 ∷ pos 0 ∷ pos 0 ∷ []) false start 0
reading_start asked s start few =
    record {
      few = few;
      within = omega arith;
      wide = refl;
      small = λ k. rw (zero_at k) (omega arith);
      free = λ k h. zero_at k;
      line = refl;
      so_far = [];
      left = front (numbers_in (map read_as (described asked)) (drop start s));
      found = λ ms. refl;
      held = λ ms. refl;
    }
  where
    zero_at : (k : ℕ) → get_or (pos 0 ∷ pos 0 ∷ pos 0 ∷ []) k (pos 0) ≡ pos 0
    zero_at zero = refl
    zero_at (suc zero) = refl
    zero_at (suc (suc zero)) = refl
    zero_at (suc (suc (suc k))) = refl

    front : (o : Option (List ℤ)) → o ≡ Option.map (λ ms. [] ++ ms) o
    front none = refl
    front (some ms) = refl

-- field i of a description that has it
field_of : (count i : ℕ) (f : ℕ → Asked) → i < count → count ≤ 3 → drop i (take count (f 0 ∷ f 1 ∷ f 2 ∷ [])) ≡ f i ∷ drop (suc i) (take count (f 0 ∷ f 1 ∷ f 2 ∷ []))
field_of zero i f l few = absurd (omega arith)
field_of (suc n) zero f l few = refl
field_of (suc zero) (suc i) f l few = absurd (omega arith)
field_of (suc (suc n)) (suc zero) f l few = refl
field_of (suc (suc zero)) (suc (suc i)) f l few = absurd (omega arith)
field_of (suc (suc (suc n))) (suc (suc zero)) f l few = refl
field_of (suc (suc (suc n))) (suc (suc (suc i))) f l few = absurd (omega arith)

fields_end : (n : ℕ) (fs : List Asked) → drop n (take n fs) ≡ []
fields_end zero fs = refl
fields_end (suc n) [] = refl
fields_end (suc n) (f ∷ fs) = fields_end n fs

-- one number more in front of those that are left
in_front_lem : (ns : List ℤ) (z : ℤ) (o : Option (List ℤ)) → Option.map (λ ms. ns ++ ms) (both (some z) o) ≡ Option.map (λ ms. (ns ++ (z ∷ [])) ++ ms) o
in_front_lem ns z none = refl
in_front_lem ns z (some ms) = ap some (sym (append_snoc ns z ms))

-- 0 past the first n, whether they are cut off there or not
cut_free : (n : ℕ) (ns : List ℤ) → ((k : ℕ) → n ≤ k → get_or ns k (pos 0) ≡ pos 0) → (k : ℕ) → get_or (take n ns) k (pos 0) ≡ get_or ns k (pos 0)
cut_free zero ns free k = sym (free k (omega arith))
cut_free (suc n) [] free k = refl
cut_free (suc n) (z ∷ ns) free zero = refl
cut_free (suc n) (z ∷ ns) free (suc k) = cut_free n ns (λ j h. free (suc j) (omega arith)) k

or_assoc : (a b c : Bool) → (a || (b || c)) ≡ ((a || b) || c)
or_assoc true b c = refl
or_assoc false b c = refl

module _ {asked : FieldsAsked} {s : Bytes} {start : ℕ} {numbers : List ℤ} {outside : Bool} {at i : ℕ} (w : Reading asked s start numbers outside at i) where
  abbrev fs : List Asked
  fs = described asked

  -- what the numbers of these fields come to, in the line with this place
  abbrev told : ℕ → Result Numbers Refusal
  told place = numbers_to fs place (line_end s start) (numbers_in (map read_as fs) (drop start s))

  abbrev unformed : ℕ → Result Numbers Refusal
  unformed place = Err (record { fault = NotOfForm; place = place })

  module _ (l : i < asked.count) (b : Bool) (p : b ≡ signed_at asked i) (most : ℕ) (m : most ≡ largest_at asked i) (r : Std.Option FieldAt)
      (q : r ≡ field_after b most s at) where
    read_so : r ≡ field_after (signed_in (asked_at asked i)) (largest_in (asked_at asked i)) s at
    read_so =
        q ∙ ap₂ (λ (v : Bool) (n : ℕ). field_after v n s at) (p ∙ signed_in_lem asked i) (m ∙ largest_in_lem asked i)

    -- what is left has field i first
    next : drop i fs ≡ asked_at asked i ∷ drop (suc i) fs
    next = field_of asked.count i (asked_at asked) l w.few

    next_left :
        numbers_in (map read_as fs) (drop start s) ≡ Option.map (λ ms. w.so_far ++ ms) (numbers_in (read_as (asked_at asked i) ∷ map read_as (drop (suc i) fs)) (drop at s))
    next_left = w.left ∙ ap (λ (gs : List Asked). Option.map (λ ms. w.so_far ++ ms) (numbers_in (map read_as gs) (drop at s))) next

    pub field_missing : (place : ℕ) (x : Result Numbers Refusal) → x ≡ unformed place → r ≡ None → x ≡ told place
    field_missing place x is e = is ∙ (rw (next_left, missing (asked_at asked i) s at r read_so e (map read_as (drop (suc i) fs))))

    pub field_more : (found : FieldAt) → r ≡ Some found → (o : Bool) → o ≡ outside_at asked i found.number → (z : ℤ) → z ≡ held_as found.number
        → Reading asked s start (set numbers i (machine z)) (outside || o) found.end (i + 1)
    field_more found e o out z is =
        let field = stepped (asked_at asked i) s at r read_so e in
        let few = held_small (largest_in (asked_at asked i)) found.number field.number field.sized field.small in
        rw (is, small_held (held_as found.number) few, add-one i)
        (record {
          few = w.few;
          within = omega arith;
          wide = length-set numbers i (held_as found.number) ∙ w.wide;
          small = λ k. small_set few k;
          free = λ k h. get_or-set_other numbers i k (held_as found.number) (pos 0) (λ f. omega arith) ∙ w.free k (omega arith);
          line = w.line ∙ field.line;
          so_far = w.so_far ++ (field.number ∷ []);
          left = next_left ∙ ap (Option.map (λ ms. w.so_far ++ ms)) (field.left (map read_as (drop (suc i) fs)))
              ∙ in_front_lem w.so_far field.number (numbers_in (map read_as (drop (suc i) fs)) (drop found.end s));
          found = λ ms. ap (any_outside fs) (append_snoc w.so_far field.number ms) ∙ w.found (field.number ∷ ms)
              ∙ ap (λ (gs : List Asked). outside || any_outside gs (field.number ∷ ms)) next
              ∙ or_assoc outside (outside_in (asked_at asked i) (size_in (asked_at asked i) field.number)) (any_outside (drop (suc i) fs) ms)
              ∙ ap (λ (u : Bool). (outside || u) || any_outside (drop (suc i) fs) ms)
              (ap (outside_in (asked_at asked i)) (sym field.sized) ∙ sym (out ∙ outside_in_lem asked i found.number));
          held = λ ms. ap (all_held fs) (append_snoc w.so_far field.number ms) ∙ w.held (field.number ∷ ms)
              ∙ ap (λ (gs : List Asked). take i numbers ++ all_held gs (field.number ∷ ms)) next
              ∙ ap (λ (v : Std.Option ℤ). take i numbers ++ (held_as v ∷ all_held (drop (suc i) fs) ms)) (sym field.sized)
              ∙ sym (append_snoc (take i numbers) (held_as found.number) (all_held (drop (suc i) fs) ms))
              ∙ ap (λ (ns : List ℤ). ns ++ all_held (drop (suc i) fs) ms) (sym (take-suc-set numbers i (held_as found.number) below));
        })
      where
        below : i < length numbers
        below = omega (arith, w.wide, w.few)

        small_set : Small (held_as found.number) → (k : ℕ) → Small (get_or (set numbers i (held_as found.number)) k (pos 0))
        small_set few k =
            elim (ℕ_discrete k i) [
              | yes here ↦ rw (here, get_or-set_same numbers i (held_as found.number) (pos 0) below) few
              | no n ↦ rw (get_or-set_other numbers i k (held_as found.number) (pos 0) n) (w.small k)
            ]

  -- every field is read
  module _ (l : asked.count ≤ i) (t : Bool) (q : t ≡ begins line_feed (drop at s)) where
    none_left : drop i fs ≡ []
    none_left = let same : i ≡ asked.count = omega (arith, w.within) in rw same (fields_end asked.count (asked_at asked 0 ∷ asked_at asked 1 ∷ asked_at asked 2 ∷ []))

    all_left : numbers_in (map read_as fs) (drop start s) ≡ Option.map (λ ms. w.so_far ++ ms) (numbers_in [] (drop at s))
    all_left = w.left ∙ ap (λ (gs : List Asked). Option.map (λ ms. w.so_far ++ ms) (numbers_in (map read_as gs) (drop at s))) none_left

    pub not_closed : (place : ℕ) (x : Result Numbers Refusal) → x ≡ unformed place → t ≡ false → x ≡ told place
    not_closed place x is h = is ∙ (rw (all_left, no_line_feed (drop at s) (sym q ∙ h)))

    module _ (h : t ≡ true) where
      closes : begins line_feed (drop at s) ≡ true
      closes = sym q ∙ h

      all_read : numbers_in (map read_as fs) (drop start s) ≡ some (w.so_far ++ [])
      all_read = all_left ∙ rw (line_feed_lem (drop at s) closes)

      found_all : any_outside fs (w.so_far ++ []) ≡ outside
      found_all = w.found [] ∙ ap (λ (gs : List Asked). outside || any_outside gs []) none_left ∙ or_false outside
        where
          or_false : (b : Bool) → (b || false) ≡ b
          or_false true = refl
          or_false false = refl

      held_all : all_held fs (w.so_far ++ []) ≡ take i numbers
      held_all = w.held [] ∙ ap (λ (gs : List Asked). take i numbers ++ all_held gs []) none_left ∙ append-nil (take i numbers)

      -- the numbers as they are held
      held_at : (k : ℕ) → machine (get_or numbers k (pos 0)) ≡ get_or (all_held fs (w.so_far ++ [])) k (pos 0)
      held_at k =
          small_held (get_or numbers k (pos 0)) (w.small k) ∙ sym (ap (λ (ns : List ℤ). get_or ns k (pos 0)) held_all ∙ cut_free i numbers w.free k)

      pub all_told : (place : ℕ) (r : Result Numbers Refusal)
          → r ≡ unless_outside outside place (record { first = machine (get_or numbers 0 (pos 0)); second = machine (get_or numbers 1 (pos 0)); third = machine (get_or numbers 2 (pos 0)); end = at })
          → r ≡ told place
      all_told place r e =
          let ends : line_end s start ≡ at = omega (arith, w.line, line_feed_here (drop at s) closes) in
          let as_held : unless_outside outside place (record { first = machine (get_or numbers 0 (pos 0)); second = machine (get_or numbers 1 (pos 0)); third = machine (get_or numbers 2 (pos 0)); end = at })
          ≡ unless_outside outside place (numbers_from (all_held fs (w.so_far ++ [])) at) = λ i. unless_outside outside place (record { first = held_at 0 i; second = held_at 1 i; third = held_at 2 i; end = at }) in
          (e ∙ as_held ∙ sym (rw (all_read, found_all, ends)))

pub ruleset loop_laws = (rules, not-true, not-false, reading_start, field_missing, field_more, not_closed, all_told)
