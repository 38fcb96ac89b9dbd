-- A line's first field: whether it is a word, and the fields after it. Assumes nothing.
use Prim.Native.Nat.{ℕ, suc, ◌+◌, ◌-◌, ◌≤◌, ◌<◌}
use native.Mathlib.Decide.{ℕ_discrete}
use native.Mathlib.Omega.{arith}
use mathlib.Core.Bool.{Bool, true, false, cond, not, ◌&&◌, ◌||◌}
use mathlib.Core.Path.{◌≡◌, refl, sym, ap, ◌∙◌}
use mathlib.Core.List.{List, [], ◌∷◌}
use mathlib.Core.Option.{none}
use borrow.Author.Rules.{rules}
use borrow.Author.Tests.{not-true, not-false, eq-eqb, ne_eqb}
use lib.Dec.{T, eqb}
use lib.ListN.{length, get_or, take, drop, length-drop, drop_of_length-le}
use lib.Seq.{drop-drop, drop-cons}
use Rattle.fields.specs.Pieces.{Bytes, tab, line_feed, split, in_front, same_bytes}
use Rattle.fields.proofs.PieceLaws.{split_some}
use Rattle.rows.specs.Fields.{Holds, read_fields}
use Rattle.forms.specs.Along.{line_in, is_closed, ends_field, field_in, is_plain, numbers_in}
use Rattle.forms.proofs.AlongLaws.{ByteIs, a_line_feed, a_tab, another, byte_is}

-- ---- where a field ends
module _ (s : Bytes) (at : ℕ) where
  pub ends_past : length s ≤ at → true ≡ ends_field (drop at s)
  unfolding ends_field
  ends_past h = rw (drop_of_length-le s h)

  module _ (h : at < length s) where
    pub ends_tab : get_or s at 0 ≡ 9 → true ≡ ends_field (drop at s)
    unfolding ends_field
    ends_tab e = rw (drop-cons s at 0 h, e)

    pub ends_other : (get_or s at 0 ≡ 9 → ⊥) → eqb (get_or s at 0) 10 ≡ ends_field (drop at s)
    unfolding ends_field
    ends_other n = rw (drop-cons s at 0 h, ne_eqb (get_or s at 0) 9 n)

pub ruleset end_laws = (rules, ends_past, ends_tab, ends_other)

-- ---- a word, and what follows it
pub field_short : (t : Bytes) → length (field_in t) ≤ length t
unfolding field_in
field_short [] = omega arith
field_short (b ∷ bs) = go (ends_field (b ∷ bs)) (field_short bs)
  where
    go : (e : Bool) → length (field_in bs) ≤ length bs → length (cond e [] (b ∷ field_in bs)) ≤ suc (length bs)
    go true h = omega arith
    go false h = omega arith

same_long : (a b : Bytes) → length a < length b → same_bytes a b ≡ false
unfolding same_bytes
same_long a [] h = absurd (omega arith)
same_long [] (c ∷ cs) h = refl
same_long (b ∷ bs) (c ∷ cs) h = rw (same_long bs cs (omega arith)) (go (eqb b c))
  where
    go : (t : Bool) → (t && false) ≡ false
    go true = refl
    go false = refl

and_first_not : (a b : Bool) → T (not a && b) → a ≡ false
and_first_not true b t = absurd t
and_first_not false b t = refl

and_second : (a b : Bool) → T (a && b) → T b
and_second true b t = t
and_second false b t = absurd t

other_first : (e f : Bool) (b c : ℕ) (bs cs : Bytes) → eqb b c ≡ false → same_bytes (cond e [] (b ∷ bs)) (c ∷ cs) ≡ (f && false)
unfolding same_bytes
other_first true true b c bs cs n = refl
other_first true false b c bs cs n = refl
other_first false true b c bs cs n = rw n
other_first false false b c bs cs n = rw n

-- the word's bytes stand there, and its field ends after them
same_field :
    (word t : Bytes) → T (is_plain word) → length word ≤ length t →
    same_bytes (field_in t) word ≡ (ends_field (drop (length word) t) && same_bytes (take (length word) t) word)
unfolding field_in ends_field same_bytes
same_field [] [] plain h = refl
same_field [] (b ∷ bs) plain h = go (eqb b tab || eqb b line_feed)
  where
    go : (e : Bool) → same_bytes (cond e [] (b ∷ field_in bs)) [] ≡ (e && true)
    go true = refl
    go false = refl
same_field (c ∷ cs) [] plain h = absurd (omega arith)
same_field (c ∷ cs) (b ∷ bs) plain h =
    elim (ℕ_discrete b c) [
      | yes e ↦ rw (e, and_first_not (eqb c tab || eqb c line_feed) (is_plain cs) plain, eq-eqb c c refl)
          (same_field cs bs (and_second (not (eqb c tab || eqb c line_feed)) (is_plain cs) plain) (omega arith))
      | no n ↦ other_first (eqb b tab || eqb b line_feed) (ends_field (drop (length cs) bs)) b c (field_in bs) cs (ne_eqb b c n)
          ∙ ap (λ (t : Bool). ends_field (drop (length cs) bs) && (t && same_bytes (take (length cs) bs) cs)) (sym (ne_eqb b c n))
    ]

-- as the code asks
module _ (s : Bytes) (at : ℕ) (word : Bytes) where
  pub word_short : length s - at < length word → false ≡ same_bytes (field_in (drop at s)) word
  word_short h = sym (same_long (field_in (drop at s)) word (omega (arith, field_short (drop at s), length-drop at s)))

  module _ (inside : at ≤ length s) (plain : T (is_plain word)) (long : length word ≤ length s - at) where
    same_there : same_bytes (field_in (drop at s)) word ≡ (ends_field (drop (at + length word) s) && same_bytes (take (length word) (drop at s)) word)
    same_there =
        same_field word (drop at s) plain (omega (arith, length-drop at s))
        ∙ ap (λ (u : Bytes). ends_field u && same_bytes (take (length word) (drop at s)) word) (drop-drop (length word) at s)

    module _ (t : Bool) (q : t ≡ ends_field (drop (at + length word) s)) where
      pub word_goes_on : t ≡ false → false ≡ same_bytes (field_in (drop at s)) word
      word_goes_on e = sym (same_there ∙ rw (← q, e))

      pub word_there : (r : Bool) → t ≡ true → r ≡ same_bytes (take (at + length word - at) (drop at s)) word → r ≡ same_bytes (field_in (drop at s)) word
      word_there r e p =
          let same : at + length word - at ≡ length word = omega arith in
          p ∙ sym (same_there ∙ rw (← q, e, same))

pub ruleset word_laws = (rules, not-true, not-false, word_short, word_goes_on, word_there)

-- ---- the pieces of a closed line: the first field, and those that are read after it
pub record Cut (t : Bytes) : Type 0 where
  pub others : List Bytes
  pub pieces : split tab (line_in t) ≡ field_in t ∷ others
  pub numbers : (fs : List Holds) → numbers_in fs (drop (length (field_in t)) t) ≡ read_fields fs others

module _ (b : ℕ) (bs : Bytes) where
  cut_line_feed : b ≡ 10 → Cut (b ∷ bs)
  unfolding line_in field_in ends_field numbers_in split
  cut_line_feed e = rw e (record { others = []; pieces = refl; numbers = λ fs. refl })

  cut_tab : b ≡ 9 → is_closed (b ∷ bs) ≡ true → Cut (b ∷ bs)
  unfolding line_in is_closed field_in ends_field numbers_in split
  cut_tab e closed =
      let ends : is_closed bs ≡ true = rw e at closed in
      rw e (record { others = split tab (line_in bs); pieces = refl; numbers = λ fs. rw ends })

  cut_other : eqb b 9 ≡ false → eqb b 10 ≡ false → Cut bs → Cut (b ∷ bs)
  unfolding line_in field_in ends_field split
  cut_other n m cut =
      record { others = cut.others; pieces = rw (m, n, cut.pieces); numbers = λ fs. rw (n, m) (cut.numbers fs) }

pub cut : (t : Bytes) → is_closed t ≡ true → Cut t
unfolding is_closed
cut [] e = absurd (let z : ◌≡◌ {A = ℕ} 0 1 = cc in omega arith)
cut (b ∷ bs) e = go (byte_is b) (cut bs)
  where
    go : ByteIs b → (is_closed bs ≡ true → Cut bs) → Cut (b ∷ bs)
    go (a_line_feed f) rest = cut_line_feed b bs f
    go (a_tab f) rest = cut_tab b bs f e
    go (another n m) rest = cut_other b bs n m (rest (rw m at e))

-- of a line that is not closed no numbers are read
module _ (fs : List Holds) (b : ℕ) (bs : Bytes) where
  open_tab : b ≡ 9 → is_closed (b ∷ bs) ≡ false → numbers_in fs (drop (length (field_in (b ∷ bs))) (b ∷ bs)) ≡ none
  unfolding is_closed field_in ends_field numbers_in
  open_tab e closed = let ends : is_closed bs ≡ false = rw e at closed in rw (e, ends)

  open_other :
      eqb b 9 ≡ false → eqb b 10 ≡ false → numbers_in fs (drop (length (field_in bs)) bs) ≡ none →
      numbers_in fs (drop (length (field_in (b ∷ bs))) (b ∷ bs)) ≡ none
  unfolding field_in ends_field
  open_other n m e = rw (n, m) e

pub uncut : (fs : List Holds) (t : Bytes) → is_closed t ≡ false → numbers_in fs (drop (length (field_in t)) t) ≡ none
unfolding is_closed field_in numbers_in
uncut fs [] e = refl
uncut fs (b ∷ bs) e = go (byte_is b) (uncut fs bs)
  where
    go : ByteIs b → (is_closed bs ≡ false → numbers_in fs (drop (length (field_in bs)) bs) ≡ none) → numbers_in fs (drop (length (field_in (b ∷ bs))) (b ∷ bs)) ≡ none
    go (a_line_feed f) rest = absurd (let z : ◌≡◌ {A = Bool} true false = rw f at e in let z : ◌≡◌ {A = ℕ} 0 1 = cc in omega arith)
    go (a_tab f) rest = open_tab fs b bs f e
    go (another n m) rest = open_other fs b bs n m (rest (rw m at e))

-- a line goes on after its first field as far as it goes
module _ (b : ℕ) (bs : Bytes) where
  line_here : ends_field (b ∷ bs) ≡ true → length (line_in (b ∷ bs)) ≡ length (field_in (b ∷ bs)) + length (line_in (drop (length (field_in (b ∷ bs))) (b ∷ bs)))
  unfolding field_in
  line_here e = rw e (omega arith)

  line_on_lem :
      eqb b 9 ≡ false → eqb b 10 ≡ false → length (line_in bs) ≡ length (field_in bs) + length (line_in (drop (length (field_in bs)) bs)) →
      length (line_in (b ∷ bs)) ≡ length (field_in (b ∷ bs)) + length (line_in (drop (length (field_in (b ∷ bs))) (b ∷ bs)))
  unfolding line_in field_in ends_field
  line_on_lem n m ih = rw (n, m) (omega arith)

  ends_at : b ≡ 10 → ends_field (b ∷ bs) ≡ true
  unfolding ends_field
  ends_at e = rw e

  ends_at_tab : b ≡ 9 → ends_field (b ∷ bs) ≡ true
  unfolding ends_field
  ends_at_tab e = rw e

pub field_line : (t : Bytes) → length (line_in t) ≡ length (field_in t) + length (line_in (drop (length (field_in t)) t))
unfolding line_in field_in
field_line [] = omega arith
field_line (b ∷ bs) = go (byte_is b) (field_line bs)
  where
    go : ByteIs b → length (line_in bs) ≡ length (field_in bs) + length (line_in (drop (length (field_in bs)) bs)) →
        length (line_in (b ∷ bs)) ≡ length (field_in (b ∷ bs)) + length (line_in (drop (length (field_in (b ∷ bs))) (b ∷ bs)))
    go (a_line_feed e) ih = line_here b bs (ends_at b bs e)
    go (a_tab e) ih = line_here b bs (ends_at_tab b bs e)
    go (another n m) ih = line_on_lem b bs n m ih

-- the first piece of a line is its first field, whether it is closed or not
module _ (b : ℕ) (bs : Bytes) where
  piece_line_feed : b ≡ 10 → get_or (split tab (line_in (b ∷ bs))) 0 [] ≡ field_in (b ∷ bs)
  unfolding line_in field_in ends_field split
  piece_line_feed e = rw e

  piece_tab : b ≡ 9 → get_or (split tab (line_in (b ∷ bs))) 0 [] ≡ field_in (b ∷ bs)
  unfolding line_in field_in ends_field split
  piece_tab e = rw e

  piece_on :
      eqb b 9 ≡ false → eqb b 10 ≡ false → get_or (in_front b (split tab (line_in bs))) 0 [] ≡ b ∷ field_in bs →
      get_or (split tab (line_in (b ∷ bs))) 0 [] ≡ field_in (b ∷ bs)
  unfolding line_in field_in ends_field split
  piece_on n m e = rw (m, n) e

pub first_piece : (t : Bytes) → get_or (split tab (line_in t)) 0 [] ≡ field_in t
unfolding line_in field_in split
first_piece [] = refl
first_piece (b ∷ bs) = go (byte_is b) (first_piece bs)
  where
    on : (ps : List Bytes) → 1 ≤ length ps → get_or ps 0 [] ≡ field_in bs → get_or (in_front b ps) 0 [] ≡ b ∷ field_in bs
    on [] h e = absurd (omega arith)
    on (p ∷ ps) h e = ap (λ (f : Bytes). b ∷ f) e

    go : ByteIs b → get_or (split tab (line_in bs)) 0 [] ≡ field_in bs → get_or (split tab (line_in (b ∷ bs))) 0 [] ≡ field_in (b ∷ bs)
    go (a_line_feed e) ih = piece_line_feed b bs e
    go (a_tab e) ih = piece_tab b bs e
    go (another n m) ih = piece_on b bs n m (on (split tab (line_in bs)) (split_some tab (line_in bs)) ih)
