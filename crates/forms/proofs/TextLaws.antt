-- The first line of a text, by the definitions of rows: its form, and the lines after it. Assumes nothing.
use Prim.Native.Nat.{ℕ, zero, suc, ◌^◌, ◌<◌}
use native.Mathlib.Decide.{ℕ_discrete}
use native.Mathlib.Omega.{arith}
use mathlib.Core.Bool.{Bool, true, false, cond, ◌&&◌}
use mathlib.Core.Path.{◌≡◌, refl, sym, ap, ap₂, ◌∙◌, subst}
use mathlib.Core.List.{List, [], ◌∷◌}
use mathlib.Core.Option.{Option, none, some, map}
use borrow.Author.Tests.{eq-eqb, ne_eqb}
use lib.Dec.{T, eqb}
use lib.IntN.{ℤ, pos, negsuc, nat_abs}
use lib.ListN.{length, get_or, drop}
use mir.Syntax.{w64}
use mir.Val.{SFits, to_z, of_z}
use mir.ValLaws.{to_z-of_z}
use Rattle.fields.specs.Pieces.{Bytes, tab, line_feed, split, same_bytes}
use Rattle.fields.specs.Numbers.{number_of, without_minus, amount_of}
use Rattle.fields.proofs.NumberLaws.{number_below, amount_below}
use Rattle.fields.proofs.DigitLaws.{some_is, none_some}
use Rattle.rows.specs.Fields.{Holds, operand, ranged, up_to_top, amount, read_field, both, read_fields}
use Rattle.rows.proofs.Tests.{cond_cases, and_second}
use Rattle.rows.proofs.FieldLaws.{Held, Fields, fields_read_written}
use Rattle.rows.specs.Forms.{after_word, Vocabulary, named, saying, read_said}
use Rattle.rows.specs.Lines.{Lines, lines, closed, in_front, lines_of}
use Rattle.forms.specs.Along.{line_in, is_closed, after_line, field_in, numbers_in}
use Rattle.forms.proofs.WordLaws.{cut}

-- ---- the form of a closed line
module _ (t : Bytes) (closes : is_closed t ≡ true) where
  pub titled_reads :
      (word : Bytes) (fs : List Holds) →
      after_word word fs (split tab (line_in t)) ≡ cond (same_bytes (field_in t) word) (numbers_in fs (drop (length (field_in t)) t)) none
  titled_reads word fs = let c = cut t closes in rw (c.pieces, c.numbers fs)

  pub worded_reads :
      {W : Type 0} (v : Vocabulary W) (w : W) → named v v.words (field_in t) ≡ some w →
      read_said v (split tab (line_in t)) ≡ map (saying w) (numbers_in (v.fields w) (drop (length (field_in t)) t))
  worded_reads v w e = let c = cut t closes in rw (c.pieces, e, read_said, c.numbers (v.fields w))

  pub worded_none : {W : Type 0} (v : Vocabulary W) → named v v.words (field_in t) ≡ none → read_said v (split tab (line_in t)) ≡ none
  worded_none v e = let c = cut t closes in rw (c.pieces, e, read_said)

-- ---- the numbers depend on no more of a description than which fields have a sign
abbrev pub is_signed : Holds → Bool
is_signed operand = false
is_signed (ranged low high) = false
is_signed up_to_top = false
is_signed (amount most) = true

unfoldable pub alike : List Holds → List Holds → Bool
alike [] [] = true
alike [] (g ∷ gs) = false
alike (f ∷ fs) [] = false
alike (f ∷ fs) (g ∷ gs) = cond (is_signed f) (is_signed g) (cond (is_signed g) false true) && alike fs gs

abbrev read_as_lem : Bool → Bytes → Option ℤ
read_as_lem true p = amount_of p
read_as_lem false p = without_minus (number_of p)

reads_as : (f : Holds) (p : Bytes) → read_field f p ≡ read_as_lem (is_signed f) p
reads_as operand p = refl
reads_as (ranged low high) p = refl
reads_as up_to_top p = refl
reads_as (amount most) p = refl

alike_reads : (fs gs : List Holds) (ps : List Bytes) → T (alike fs gs) → read_fields fs ps ≡ read_fields gs ps
unfolding alike read_fields
alike_reads [] [] ps t = refl
alike_reads [] (g ∷ gs) ps t = absurd t
alike_reads (f ∷ fs) [] ps t = absurd t
alike_reads (f ∷ fs) (g ∷ gs) [] t = refl
alike_reads (f ∷ fs) (g ∷ gs) (p ∷ ps) t =
    ap₂ both (reads_as f p ∙ ap (λ (b : Bool). read_as_lem b p) (same (is_signed f) (is_signed g) t) ∙ sym (reads_as g p))
    (alike_reads fs gs ps (rest (is_signed f) (is_signed g) t))
  where
    same : (a b : Bool) → T (cond a b (cond b false true) && alike fs gs) → a ≡ b
    same true true t = refl
    same true false t = absurd t
    same false true t = absurd t
    same false false t = refl

    rest : (a b : Bool) → T (cond a b (cond b false true) && alike fs gs) → T (alike fs gs)
    rest true true t = t
    rest true false t = absurd t
    rest false true t = absurd t
    rest false false t = t

pub alike_numbers : (fs gs : List Holds) (t : Bytes) → T (alike fs gs) → numbers_in fs t ≡ numbers_in gs t
unfolding numbers_in
alike_numbers fs gs [] e = refl
alike_numbers fs gs (b ∷ bs) e =
    ap₂ (λ (o p : Option (List ℤ)). cond (eqb b line_feed) o (cond (eqb b tab && is_closed bs) p none)) (alike_reads fs gs [] e) (alike_reads fs gs (split tab (line_in bs)) e)

-- ---- the lines of a text
module _ (b : ℕ) (bs : Bytes) where
  lines_here : b ≡ 10 → lines_of (b ∷ bs) ≡ closed (line_in (b ∷ bs)) (lines_of (after_line (b ∷ bs)))
  unfolding lines_of line_in after_line
  lines_here e = rw e

  lines_on :
      eqb b 10 ≡ false → lines_of bs ≡ closed (line_in bs) (lines_of (after_line bs)) →
      lines_of (b ∷ bs) ≡ closed (line_in (b ∷ bs)) (lines_of (after_line (b ∷ bs)))
  unfolding lines_of line_in after_line
  lines_on n e = rw (n, e) (go (lines_of (after_line bs)))
    where
      go : (l : Lines) → in_front b (closed (line_in bs) l) ≡ closed (b ∷ line_in bs) l
      go (lines ps rest) = refl

pub lines_closed : (t : Bytes) → is_closed t ≡ true → lines_of t ≡ closed (line_in t) (lines_of (after_line t))
unfolding is_closed
lines_closed [] e = absurd (let z : ◌≡◌ {A = ℕ} 0 1 = cc in omega arith)
lines_closed (b ∷ bs) e =
    elim (ℕ_discrete b 10) [
      | yes f ↦ lines_here b bs f
      | no n ↦ lines_on b bs (ne_eqb b 10 n) (lines_closed bs (rw (ne_eqb b 10 n) at e))
    ]

pub lines_open : (t : Bytes) → is_closed t ≡ false → lines_of t ≡ lines [] t
unfolding is_closed lines_of
lines_open [] e = refl
lines_open (b ∷ bs) e =
    elim (ℕ_discrete b 10) [
      | yes f ↦ absurd (let z : ◌≡◌ {A = Bool} true false = rw (eq-eqb b 10 f) at e in let z : ◌≡◌ {A = ℕ} 0 1 = cc in omega arith)
      | no n ↦ rw (ne_eqb b 10 n, lines_open bs (rw (ne_eqb b 10 n) at e))
    ]

pub line_open : (t : Bytes) → is_closed t ≡ false → line_in t ≡ t
unfolding is_closed line_in
line_open [] e = refl
line_open (b ∷ bs) e =
    elim (ℕ_discrete b 10) [
      | yes f ↦ absurd (let z : ◌≡◌ {A = Bool} true false = rw (eq-eqb b 10 f) at e in let z : ◌≡◌ {A = ℕ} 0 1 = cc in omega arith)
      | no n ↦ rw (ne_eqb b 10 n) (ap (λ (u : Bytes). b ∷ u) (line_open bs (rw (ne_eqb b 10 n) at e)))
    ]

-- the place past a closed line
pub record Past (t : Bytes) : Type 0 where
  pub within : length (line_in t) < length t
  pub after : after_line t ≡ drop (suc (length (line_in t))) t

pub past_line : (t : Bytes) → is_closed t ≡ true → Past t
unfolding is_closed line_in after_line
past_line [] e = absurd (let z : ◌≡◌ {A = ℕ} 0 1 = cc in omega arith)
past_line (b ∷ bs) e =
    elim (ℕ_discrete b 10) [
      | yes f ↦ record { within = rw (eq-eqb b 10 f) (omega arith); after = rw (eq-eqb b 10 f) }
      | no n ↦ let rest = past_line bs (rw (ne_eqb b 10 n) at e) in
          record { within = rw (ne_eqb b 10 n) (omega arith); after = rw (ne_eqb b 10 n) rest.after }
    ]

-- ---- the numbers that are read are those of the description
pub numbers_held : (fs : List Holds) (t : Bytes) {ns : List ℤ} → numbers_in fs t ≡ some ns → Fields Held fs ns
unfolding numbers_in
numbers_held fs [] e = none_some e
numbers_held fs (b ∷ bs) {ns} e =
    cond_cases (λ o. o ≡ some ns → Fields Held fs ns) (eqb b line_feed) _ _ (λ t q. (fields_read_written fs [] q).held)
    (λ t. cond_cases (λ o. o ≡ some ns → Fields Held fs ns) (eqb b tab && is_closed bs) _ _ (λ u q. (fields_read_written fs (split tab (line_in bs)) q).held) (λ u q. none_some q))
    e

-- they fit 64 bits with a sign
abbrev pub Small : ℤ → Type 0
Small z = nat_abs z < 10 ^ 11

pub small_fits : (z : ℤ) → Small z → SFits w64 z
small_fits (pos n) h = record { sfits = omega arith }
small_fits (negsuc n) h = record { sfits = omega arith }

pub small_held : (z : ℤ) → Small z → to_z w64 (of_z w64 z) ≡ z
small_held z h = to_z-of_z w64 z (small_fits z h)

field_small : (f : Holds) (b : Bytes) {z : ℤ} → read_field f b ≡ some z → Small z
field_small f b {z} e = go (is_signed f) (sym (reads_as f b) ∙ e)
  where
    as_amount : (a : Option ℤ) → amount_of b ≡ a → a ≡ some z → Small z
    as_amount (some t) q v = subst Small (some_is v) (amount_below b q)
    as_amount none q v = none_some v

    as_number : (a : Option ℕ) → number_of b ≡ a → without_minus a ≡ some z → Small z
    as_number (some n) q v = subst Small (some_is v) (number_below b q)
    as_number none q v = none_some v

    go : (s : Bool) → read_as_lem s b ≡ some z → Small z
    go true v = as_amount (amount_of b) refl v
    go false v = as_number (number_of b) refl v

fields_small : (fs : List Holds) (bs : List Bytes) {ns : List ℤ} → read_fields fs bs ≡ some ns → (j : ℕ) → Small (get_or ns j (pos 0))
unfolding read_fields
fields_small [] [] {ns} e j = subst (λ (l : List ℤ). Small (get_or l j (pos 0))) (some_is e) (omega arith)
fields_small [] (b ∷ bs) e j = none_some e
fields_small (f ∷ fs) [] e j = none_some e
fields_small (f ∷ fs) (b ∷ bs) {ns} e j = go (read_field f b) (read_fields fs bs) refl refl (λ ms q. fields_small fs bs {ns = ms} q) e
  where
    here : (z : ℤ) (ms : List ℤ) → Small z → ((i : ℕ) → Small (get_or ms i (pos 0))) → (i : ℕ) → Small (get_or (z ∷ ms) i (pos 0))
    here z ms h hs zero = h
    here z ms h hs (suc i) = hs i

    go : (x : Option ℤ) (y : Option (List ℤ)) → read_field f b ≡ x → read_fields fs bs ≡ y → ((ms : List ℤ) → read_fields fs bs ≡ some ms → (i : ℕ) → Small (get_or ms i (pos 0)))
        → both x y ≡ some ns → Small (get_or ns j (pos 0))
    go none y q u ih v = none_some v
    go (some z) none q u ih v = none_some v
    go (some z) (some ms) q u ih v = subst (λ (l : List ℤ). Small (get_or l j (pos 0))) (some_is v) (here z ms (field_small f b q) (ih ms u) j)

pub numbers_small : (fs : List Holds) (t : Bytes) {ns : List ℤ} → numbers_in fs t ≡ some ns → (j : ℕ) → Small (get_or ns j (pos 0))
unfolding numbers_in
numbers_small fs [] e = none_some e
numbers_small fs (b ∷ bs) {ns} e =
    let P : Option (List ℤ) → Type 0 = λ o. o ≡ some ns → (j : ℕ) → Small (get_or ns j (pos 0)) in
    cond_cases P (eqb b line_feed) _ _ (λ t q. fields_small fs [] q)
    (λ t. cond_cases P (eqb b tab && is_closed bs) _ _ (λ u q. fields_small fs (split tab (line_in bs)) q) (λ u q. none_some q)) e

-- and their line is closed
module _ (fs : List Holds) (b : ℕ) (bs : Bytes) where
  numbers_here : b ≡ 10 → length (line_in (b ∷ bs)) < length (b ∷ bs)
  unfolding line_in
  numbers_here e = rw e (omega arith)

  numbers_on : {ns : List ℤ} → eqb b 10 ≡ false → cond (eqb b tab && is_closed bs) (read_fields fs (split tab (line_in bs))) none ≡ some ns
      → length (line_in (b ∷ bs)) < length (b ∷ bs)
  unfolding line_in
  numbers_on {ns} n e =
      cond_cases (λ o. o ≡ some ns → length (line_in (b ∷ bs)) < length (b ∷ bs)) (eqb b tab && is_closed bs) _ _
      (λ u q. rw n (let rest = (past_line bs (true_is (is_closed bs) (and_second (eqb b tab) (is_closed bs) u))).within in omega arith)) (λ u q. none_some q) e
    where
      true_is : (u : Bool) → T u → u ≡ true
      true_is true t = refl
      true_is false t = absurd t

pub numbers_closed : (fs : List Holds) (t : Bytes) {ns : List ℤ} → numbers_in fs t ≡ some ns → length (line_in t) < length t
unfolding numbers_in
numbers_closed fs [] e = none_some e
numbers_closed fs (b ∷ bs) e =
    elim (ℕ_discrete b 10) [ yes f ↦ numbers_here fs b bs f | no n ↦ numbers_on fs b bs (ne_eqb b 10 n) (rw (ne_eqb b 10 n) at e) ]
