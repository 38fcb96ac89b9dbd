-- The header line, test by test. Assumes nothing.
use Prim.Native.Nat.{ℕ, zero, suc, ◌+◌, ◌≤◌}
use native.Mathlib.Omega.{arith}
use mathlib.Core.Path.{◌≡◌, refl, sym, ap, ap₂, ◌∙◌, subst}
use mathlib.Core.Bool.{Bool, true, false, cond, not, ◌&&◌, ◌||◌}
use mathlib.Core.List.{List, [], ◌∷◌}
use mathlib.Core.Option.{Option, none, some, map}
use borrow.Author.Rules.{rules}
use borrow.Author.Tests.{not-true, not-false, ne_eqb, le-leb}
use lib.Dec.{T, eqb, leb, leb→le}
use lib.IntN.{ℤ, pos, nat_abs}
use lib.Signed.{non_neg}
use lib.ListN.{length, drop, length-drop}
use mir.Syntax.{w32, w64}
use mir.Val.{Fits, to_z, of_z}
use Rattle.std.specs.Prelude as Std
use Rattle.fields.specs.Pieces.{Bytes, tab, line_feed, split, same_bytes}
use Rattle.fields.specs.Places.{begins, size_of}
use Rattle.fields.specs.declared.FieldAt.{FieldAt}
use Rattle.fields.proofs.FieldLaws.{begins_is}
use Rattle.fields.proofs.PieceLaws.{same_bytes_lem}
use Rattle.rows.specs.Fields.{Holds, operand, within, both}
use Rattle.rows.specs.Forms.{after_word, or_else}
use Rattle.rows.specs.Rows.{Judgement, good, bad, read, refused, judged, formed}
use Rattle.rows.proofs.FieldLaws.{Natural, number}
use Rattle.model.specs.declared.Grammar.{Grammar}
use Rattle.model.specs.declared.Grammar.TheVariants.{Circuit, Schedule}
use Rattle.model.specs.declared.Header.{Header}
use Rattle.model.specs.Scales.{three_fields, header_fields, header_in_range}
use Rattle.model.proofs.Tests as Tests
use Rattle.model.proofs.Tests.{header_facts}
use Rattle.text.specs.Files.{header_word, header_of}
use Rattle.listings.specs.declared.Levels.{Levels}
use Rattle.listings.specs.declared.Levels.TheVariants.{Falling, Rising}
use Rattle.forms.specs.Along.{line_in, is_closed, field_in, numbers_in}
use Rattle.forms.specs.Asked as A
use Rattle.forms.specs.Asked.{field_after, Asked}
use Rattle.forms.proofs.WordLaws.{uncut, field_line}
use Rattle.forms.proofs.StepLaws.{no_line_feed, line_feed_lem, line_feed_here, line_end, Stepped, stepped, missing}
use Rattle.forms.proofs.TextLaws.{titled_reads, alike, alike_numbers, small_held}
use Rattle.std.specs.Prelude.{Result, Ok, Err, Some, None, unwrap_or}
use Rattle.model.specs.declared.Refusal.{Refusal}
use Rattle.model.specs.Refusals.{told}
use Rattle.headers.specs.Headers.{header_word_of, number_to, number_at, header_with, has_outside, held_judged, header_to, header_tests, numbers_judged, header_judged, not_of_form}

-- ---- the word, and its length
module _ (levels : Levels) (g : Grammar) (t : Bytes) (r : Bool) where
  pub rising_word : levels ≡ Rising → r ≡ same_bytes (field_in t) (header_word_of Rising g) → r ≡ same_bytes (field_in t) (header_word_of levels g)
  rising_word e q = rw e q

  pub circuit_word : levels ≡ Falling → g ≡ Circuit → r ≡ same_bytes (field_in t) (header_word Circuit) → r ≡ same_bytes (field_in t) (header_word_of levels g)
  circuit_word f e q = rw (f, e) q

  pub schedule_word : levels ≡ Falling → g ≡ Schedule → r ≡ same_bytes (field_in t) (header_word Schedule) → r ≡ same_bytes (field_in t) (header_word_of levels g)
  schedule_word f e q = rw (f, e) q

module _ (levels : Levels) (g : Grammar) where
  pub rising_end : levels ≡ Rising → 6 ≡ length (header_word_of levels g)
  rising_end e = rw e

  pub circuit_end : levels ≡ Falling → g ≡ Circuit → 7 ≡ length (header_word_of levels g)
  circuit_end f e = rw (f, e)

  pub schedule_end : levels ≡ Falling → g ≡ Schedule → 8 ≡ length (header_word_of levels g)
  schedule_end f e = rw (f, e)

pub ruleset word_laws = (rules, rising_word, circuit_word, schedule_word, rising_end, circuit_end, schedule_end)

-- ---- a number that stands after a tab, by the field that is read there
abbrev asked : Asked
asked = A.number (pos 1) 60

record NumberRead (s : Bytes) (at : ℕ) (field : FieldAt) : Type 0 where
  value : ℕ
  sized : field.number ≡ size_of 60 (pos value)
  line : line_end s at ≡ line_end s field.end
  left : (fs : List Holds) → numbers_in (operand ∷ fs) (drop at s) ≡ both (some (pos value)) (numbers_in fs (drop field.end s))

number_read : (s : Bytes) (at : ℕ) (r : Std.Option FieldAt) → r ≡ field_after false 60 s at → {field : FieldAt} → r ≡ Std.Some field → NumberRead s at field
number_read s at r q {field} is =
    let step : Stepped asked s at field.number field.end = stepped asked s at r q is in
    go step.number step.held step.sized step.left step.line
  where
    go : (z : ℤ) → Natural z → field.number ≡ size_of 60 z
        → ((fs : List Holds) → numbers_in (operand ∷ fs) (drop at s) ≡ both (some z) (numbers_in fs (drop field.end s)))
        → line_end s at ≡ line_end s field.end → NumberRead s at field
    go z (number n) sized left line = record { value = n; sized = sized; line = line; left = left }

-- as the code holds it
abbrev machine : ℤ → ℤ
machine z = to_z w64 (of_z w64 z)

pub record Ranged (z : ℤ) : Type 0 where
  pub unsigned : T (non_neg (machine z))
  pub fits : Fits w32 (nat_abs (machine z))
  pub is : nat_abs (machine z) ≡ nat_abs z

sized_ranged : (n : ℕ) → Ranged (unwrap_or (size_of 60 (pos n)) (pos 0))
sized_ranged n = go (leb n 60) refl
  where
    here : (n : ℕ) → n ≤ 60 → Ranged (pos n)
    here n most =
        let held : machine (pos n) ≡ pos n = small_held (pos n) (omega arith) in
        record { unsigned = rw held tt; fits = rw held (record { fits = omega arith }); is = ap nat_abs held }

    go : (b : Bool) → leb n 60 ≡ b → Ranged (unwrap_or (cond b (Std.Some (pos n)) Std.None) (pos 0))
    go true q = here n (leb→le n 60 (subst T (sym q) tt))
    go false q = here 0 (omega arith)

module _ (s : Bytes) (at : ℕ) (r : Std.Option FieldAt) (q : r ≡ field_after false 60 s at) where
  pub no_number : r ≡ Std.None → Err not_of_form ≡ number_at s at
  unfolding number_at
  no_number is = rw (← q, is)

  module _ (field : FieldAt) (is : r ≡ Std.Some field) (z : ℤ) (e : z ≡ unwrap_or field.number (pos 0)) where
    pub number_ranged : Ranged z
    number_ranged =
        let there = number_read s at r q is in
        rw (e, there.sized) (sized_ranged there.value)

    pub number_held : Ok ((nat_abs (machine z)), field.end) ≡ number_at s at
    unfolding number_at
    number_held = rw (← q, is, ← e) (ap (λ (n : ℕ). Ok (n, field.end)) number_ranged.is)

pub ruleset number_laws = (rules, no_number, number_ranged, number_held)

-- ---- the numbers of a header as they are held
abbrev held : ℕ → ℕ
held n = cond (leb n 60) n 0

held_in : (n : ℕ) → eqb (held n) 0 ≡ not (within 1 60 n)
held_in n = go n (leb n 60)
  where
    go : (n : ℕ) (b : Bool) → eqb (cond b n 0) 0 ≡ not (leb 1 n && b)
    go zero true = refl
    go zero false = refl
    go (suc n) true = rw (ne_eqb (suc n) 0 (λ e. omega arith), le-leb 1 (suc n) (omega arith))
    go (suc n) false = rw (le-leb 1 (suc n) (omega arith))

held_same : {n : ℕ} → Tests.Within 1 60 n → held n ≡ n
held_same {n} w = rw (le-leb n 60 w.most)

-- where a headroom is given, its number is held so too
abbrev held_room : Std.Option ℕ → Std.Option ℕ
held_room None = None
held_room (Some bits) = Some (held bits)

module _ (h : Header) (end : ℕ) (b : Bool) (q : b ≡ has_outside h) where
  pub is_ranged : b ≡ false → read (h, end) ≡ header_to end (held_judged h)
  is_ranged e = rw (← q, e)

  pub not_ranged : b ≡ true → refused 2 1 ≡ header_to end (held_judged h)
  not_ranged e = rw (← q, e)

pub ruleset range_laws = (rules, not-true, not-false, is_ranged, not_ranged)

-- a header is judged by them as by its numbers
module _ (f w l : ℕ) (given : Std.Option ℕ) where
  abbrev as_read : Header
  as_read = header_with f w l given

  abbrev as_held : Header
  as_held = header_with (held f) (held w) (held l) (held_room given)

  outside_held : has_outside as_held ≡ not (header_in_range as_read)
  outside_held = go given
    where
      three : (a b c d : Bool) → (not a || (not b || (not c || not d))) ≡ not (a && (b && (c && d)))
      three true true true d = refl
      three true true false d = refl
      three true false c d = refl
      three false b c d = refl

      go : (given : Std.Option ℕ) → has_outside (header_with (held f) (held w) (held l) (held_room given)) ≡ not (header_in_range (header_with f w l given))
      go None = (λ i. held_in f i || (held_in w i || (held_in l i || false))) ∙ three (within 1 60 f) (within 1 60 w) (within 1 60 l) true
      go (Some bits) = (λ i. held_in f i || (held_in w i || (held_in l i || held_in bits i))) ∙ three (within 1 60 f) (within 1 60 w) (within 1 60 l) (within 1 60 bits)

  judged_held : held_judged as_held ≡ judged (header_tests as_read) as_read
  judged_held = ap (λ (b : Bool). cond b (bad 2) (good as_held)) outside_held ∙ go (header_in_range as_read) refl
    where
      room_same : (given : Std.Option ℕ) → Tests.HeadroomFacts given → held_room given ≡ given
      room_same None facts = refl
      room_same (Some bits) facts = ap Some (held_same facts)

      go : (b : Bool) → header_in_range as_read ≡ b → cond (not b) (bad 2) (good as_held) ≡ cond b (good as_read) (bad 2)
      go true q =
          let facts = header_facts as_read (subst T (sym q) tt) in
          λ i. good (header_with (held_same facts.factor i) (held_same facts.waterline i) (held_same facts.top i) (room_same given facts.headroom i))
      go false q = refl

-- ---- a number as the header line has it, and what it leaves to be read
record NumberThere (s : Bytes) (at n end : ℕ) : Type 0 where
  value : ℕ
  is : n ≡ held value
  line : line_end s at ≡ line_end s end
  left : (fs : List Holds) → numbers_in (operand ∷ fs) (drop at s) ≡ both (some (pos value)) (numbers_in fs (drop end s))

module _ (s : Bytes) (at : ℕ) (r : Result (ℕ × ℕ) Refusal) (q : r ≡ number_at s at) where
  there : {n end : ℕ} → r ≡ Ok (n, end) → NumberThere s at n end
  unfolding number_at
  there {n} {end} is = go (field_after false 60 s at) refl (sym q ∙ is)
    where
      as_held : (m e : ℕ) → number_to (Std.Some (record { number = size_of 60 (pos m); end = e })) ≡ Ok ((held m), e)
      as_held m e = by_size (leb m 60)
        where
          by_size : (b : Bool) → number_to (Std.Some (record { number = cond b (Std.Some (pos m)) Std.None; end = e })) ≡ Ok ((cond b m 0), e)
          by_size true = refl
          by_size false = refl

      go : (x : Std.Option FieldAt) → field_after false 60 s at ≡ x → number_to x ≡ Ok (n, end) → NumberThere s at n end
      go Std.None p v = absurd (let z : ◌≡◌ {A = ℕ} 0 1 = cc in omega arith)
      go (Std.Some field) p v =
          let read = number_read s at (field_after false 60 s at) refl p in
          let same : ◌≡◌ {A = Result (ℕ × ℕ) Refusal} (Ok ((held read.value), field.end)) (Ok (n, end)) = sym (as_held read.value field.end) ∙ ap (λ (z : Std.Option ℤ). number_to (Std.Some (record { number = z; end = field.end }))) (sym read.sized) ∙ v in
          let pair : ◌≡◌ {A = ℕ × ℕ} (held read.value, field.end) (n, end) = cc in
          let place : field.end ≡ end = ap (λ (p : ℕ × ℕ). p.1) pair in
          let holds : n ≡ held read.value = sym (ap (λ (p : ℕ × ℕ). p.0) pair) in
          record {
            value = read.value;
            is = holds;
            line = read.line ∙ ap (line_end s) place;
            left = λ fs. read.left fs ∙ ap (λ (m : ℕ). both (some (pos read.value)) (numbers_in fs (drop m s))) place;
          }

  not_there : {y : Refusal} → r ≡ Err y → (fs : List Holds) → numbers_in (operand ∷ fs) (drop at s) ≡ none
  unfolding number_at
  not_there {y} is fs = go (field_after false 60 s at) refl (sym q ∙ is)
    where
      go : (x : Std.Option FieldAt) → field_after false 60 s at ≡ x → number_to x ≡ Err y → numbers_in (operand ∷ fs) (drop at s) ≡ none
      go Std.None p v = missing asked s at (field_after false 60 s at) refl p fs
      go (Std.Some field) p v = absurd (let y : ◌≡◌ {A = ℕ} 0 1 = cc in omega arith)

  told_unread : {x : Refusal} → r ≡ Err x → told {A = Header × ℕ} (Err x) ≡ refused 1 1
  unfolding number_at
  told_unread {x} is = go (field_after false 60 s at) (sym q ∙ is)
    where
      go : (f : Std.Option FieldAt) → number_to f ≡ Err x → told {A = Header × ℕ} (Err x) ≡ refused 1 1
      go Std.None v = let same : not_of_form ≡ x = cc in sym (ap (λ (y : Refusal). told {A = Header × ℕ} (Err y)) same)
      go (Std.Some field) v = absurd (let y : ◌≡◌ {A = ℕ} 0 1 = cc in omega arith)

-- ---- the numbers after a word that ends here: three, or else four
pub past_fits : (s : Bytes) (at : ℕ) (t : Bool) → t ≡ begins line_feed (drop at s) → t ≡ true → Fits w64 (length s) → Fits w64 (at + 1)
past_fits s at t q closes long =
    let inside = ap length (begins_is line_feed (drop at s) (sym q ∙ closes)) in
    record { fits = omega (arith, length-drop at s, inside, long.fits) }

abbrev of_three_or_four : Option (List ℤ) → Option (List ℤ) → Judgement Header
of_three_or_four three four = formed (map header_of (or_else three four)) header_tests

module _ (s : Bytes) (start : ℕ) where
  abbrev rest : Bytes
  rest = drop start s

  abbrev whole : ℕ
  whole = line_end s start + 1

  judged_by : {three four : Option (List ℤ)} → numbers_in (operand ∷ operand ∷ operand ∷ []) rest ≡ three
      → numbers_in (operand ∷ operand ∷ operand ∷ operand ∷ []) rest ≡ four → numbers_judged rest ≡ of_three_or_four three four
  unfolding numbers_judged alike
  judged_by p q =
      ap₂ of_three_or_four (alike_numbers three_fields (operand ∷ operand ∷ operand ∷ []) rest tt ∙ p)
      (alike_numbers header_fields (operand ∷ operand ∷ operand ∷ operand ∷ []) rest tt ∙ q)

  unformed : ((fs : List Holds) → numbers_in (operand ∷ operand ∷ operand ∷ fs) rest ≡ none) → refused 1 1 ≡ header_to whole (numbers_judged rest)
  unformed lacks = sym (ap (header_to whole) (judged_by (lacks []) (lacks (operand ∷ []))))

  module _ (r₁ : Result (ℕ × ℕ) Refusal) (q₁ : r₁ ≡ number_at s start) where
    pub no_first : (x : Refusal) → r₁ ≡ Err x → told {A = Header × ℕ} (Err x) ≡ header_to whole (numbers_judged rest)
    no_first x is = told_unread s start r₁ q₁ is ∙ unformed (λ fs. not_there s start r₁ q₁ is (operand ∷ operand ∷ fs))

    module _ (f e₁ : ℕ) (is₁ : r₁ ≡ Ok (f, e₁)) (r₂ : Result (ℕ × ℕ) Refusal) (q₂ : r₂ ≡ number_at s e₁) where
      first : NumberThere s start f e₁
      first = there s start r₁ q₁ is₁

      pub no_second : (x : Refusal) → r₂ ≡ Err x → told {A = Header × ℕ} (Err x) ≡ header_to whole (numbers_judged rest)
      no_second x is = told_unread s e₁ r₂ q₂ is ∙ unformed (λ fs. first.left (operand ∷ operand ∷ fs) ∙ rw (not_there s e₁ r₂ q₂ is (operand ∷ fs)))

      module _ (w e₂ : ℕ) (is₂ : r₂ ≡ Ok (w, e₂)) (r₃ : Result (ℕ × ℕ) Refusal) (q₃ : r₃ ≡ number_at s e₂) where
        second : NumberThere s e₁ w e₂
        second = there s e₁ r₂ q₂ is₂

        pub no_third : (x : Refusal) → r₃ ≡ Err x → told {A = Header × ℕ} (Err x) ≡ header_to whole (numbers_judged rest)
        no_third x is = told_unread s e₂ r₃ q₃ is ∙ unformed (λ fs. first.left (operand ∷ operand ∷ fs) ∙ rw (second.left (operand ∷ fs), not_there s e₂ r₃ q₃ is fs))

        module _ (l e₃ : ℕ) (is₃ : r₃ ≡ Ok (l, e₃)) (t : Bool) (q : t ≡ begins line_feed (drop e₃ s)) where
          third : NumberThere s e₂ l e₃
          third = there s e₂ r₃ q₃ is₃

          abbrev three_and : Option (List ℤ) → Option (List ℤ)
          three_and more = both (some (pos first.value)) (both (some (pos second.value)) (both (some (pos third.value)) more))

          three_left : (fs : List Holds) → numbers_in (operand ∷ operand ∷ operand ∷ fs) rest ≡ three_and (numbers_in fs (drop e₃ s))
          three_left fs = first.left (operand ∷ operand ∷ fs) ∙ rw (second.left (operand ∷ fs), third.left fs)

          -- the numbers as they are read, and as they are held
          abbrev as_read_with : Std.Option ℕ → Header
          as_read_with given = header_with first.value second.value third.value given

          told_so : (given : Std.Option ℕ) {end : ℕ} → line_end s e₃ ≡ end → numbers_judged rest ≡ judged (header_tests (as_read_with given)) (as_read_with given)
              → header_to (end + 1) (held_judged (header_with f w l (held_room given))) ≡ header_to whole (numbers_judged rest)
          told_so given ends e =
              ap₂ (λ (m : ℕ) (j : Judgement Header). header_to (m + 1) j) (sym (first.line ∙ second.line ∙ third.line ∙ ends))
              ((λ i. held_judged (header_with (first.is i) (second.is i) (third.is i) (held_room given))) ∙ judged_held first.value second.value third.value given ∙ sym e)

          module _ (closes : t ≡ true) where
            pub three_told : (r : Result (Header × ℕ) Refusal) → told r ≡ header_to (e₃ + 1) (held_judged (header_with f w l None)) → told r ≡ header_to whole (numbers_judged rest)
            three_told r says =
                let closed = sym q ∙ closes in
                says ∙ told_so None (omega (arith, line_feed_here (drop e₃ s) closed))
                (judged_by (three_left [] ∙ ap three_and (line_feed_lem (drop e₃ s) closed)) refl)

          module _ (open-there : t ≡ false) (r₄ : Result (ℕ × ℕ) Refusal) (q₄ : r₄ ≡ number_at s e₃) where
            no_three : numbers_in (operand ∷ operand ∷ operand ∷ []) rest ≡ none
            no_three = three_left [] ∙ ap three_and (no_line_feed (drop e₃ s) (sym q ∙ open-there))

            pub no_fourth : (x : Refusal) → r₄ ≡ Err x → told {A = Header × ℕ} (Err x) ≡ header_to whole (numbers_judged rest)
            no_fourth x is = told_unread s e₃ r₄ q₄ is ∙ sym (ap (header_to whole) (judged_by no_three (three_left (operand ∷ []) ∙ ap three_and (not_there s e₃ r₄ q₄ is []))))

            module _ (b e₄ : ℕ) (is₄ : r₄ ≡ Ok (b, e₄)) (u : Bool) (p : u ≡ begins line_feed (drop e₄ s)) where
              fourth : NumberThere s e₃ b e₄
              fourth = there s e₃ r₄ q₄ is₄

              abbrev four_and : Option (List ℤ) → Option (List ℤ)
              four_and more = three_and (both (some (pos fourth.value)) more)

              four_left : numbers_in (operand ∷ operand ∷ operand ∷ operand ∷ []) rest ≡ four_and (numbers_in [] (drop e₄ s))
              four_left = three_left (operand ∷ []) ∙ ap three_and (fourth.left [])

              pub not_closed : u ≡ false → refused 1 1 ≡ header_to whole (numbers_judged rest)
              not_closed e = sym (ap (header_to whole) (judged_by no_three (four_left ∙ ap four_and (no_line_feed (drop e₄ s) (sym p ∙ e)))))

              module _ (closes : u ≡ true) where
                pub four_told : (r : Result (Header × ℕ) Refusal) → told r ≡ header_to (e₄ + 1) (held_judged (header_with f w l (Some b))) → told r ≡ header_to whole (numbers_judged rest)
                four_told r says =
                    let closed = sym p ∙ closes in
                    says ∙ ap (λ (n : ℕ). header_to (e₄ + 1) (held_judged (header_with f w l (Some n)))) fourth.is
                    ∙ told_so (Some fourth.value) (fourth.line ∙ omega (arith, line_feed_here (drop e₄ s) closed))
                    (judged_by no_three (four_left ∙ ap four_and (line_feed_lem (drop e₄ s) closed)))

pub ruleset numbers_laws =
    (rules, not-true, not-false, past_fits, no_first, no_second, no_third, three_told, no_fourth, not_closed, four_told)

-- ---- the header line that a text begins with
module _ (levels : Levels) (g : Grammar) (t : Bytes) where
  abbrev title : Bytes
  title = header_word_of levels g

  abbrev after : Bytes
  after = drop (length (field_in t)) t

  reads_after : is_closed t ≡ true → {u : Bool} → same_bytes (field_in t) title ≡ u → (fs : List Holds) → after_word title fs (split tab (line_in t)) ≡ cond u (numbers_in fs after) none
  reads_after e q fs = titled_reads t e title fs ∙ ap (λ (u : Bool). cond u (numbers_in fs after) none) q

  after_word_lem : header_judged levels g t ≡ cond (same_bytes (field_in t) title) (numbers_judged after) (bad 1)
  unfolding header_judged numbers_judged
  after_word_lem = go (is_closed t) refl (same_bytes (field_in t) title) refl
    where
      go : (b : Bool) → is_closed t ≡ b → (u : Bool) → same_bytes (field_in t) title ≡ u
          → cond b (of_three_or_four (after_word title three_fields (split tab (line_in t))) (after_word title header_fields (split tab (line_in t)))) (bad 1)
          ≡ cond u (of_three_or_four (numbers_in three_fields after) (numbers_in header_fields after)) (bad 1)
      go true e true q = ap₂ of_three_or_four (reads_after e q three_fields) (reads_after e q header_fields)
      go true e false q = ap₂ of_three_or_four (reads_after e q three_fields) (reads_after e q header_fields)
      go false e true q = sym (ap₂ of_three_or_four (uncut three_fields t e) (uncut header_fields t e))
      go false e false q = refl

  module _ (u : Bool) (q : u ≡ same_bytes (field_in t) title) where
    pub other_word_lem : u ≡ false → refused 1 1 ≡ header_to (length (line_in t) + 1) (header_judged levels g t)
    other_word_lem h = let refuses : header_judged levels g t ≡ bad 1 = after_word_lem ∙ rw (← q, h) in sym (ap (header_to (length (line_in t) + 1)) refuses)

    pub its_numbers : u ≡ true → (start : ℕ) → start ≡ length title → (r : Result (Header × ℕ) Refusal) → told r ≡ header_to (line_end t start + 1) (numbers_judged (drop start t))
        → told r ≡ header_to (length (line_in t) + 1) (header_judged levels g t)
    its_numbers h start k r says =
        let past : length (field_in t) ≡ start = ap length (same_bytes_lem (field_in t) title (subst T (sym h ∙ q) tt)) ∙ sym k in
        let judged_so : header_judged levels g t ≡ numbers_judged (drop start t) = after_word_lem ∙ rw (← q, h, past) in
        says ∙ ap₂ (λ (m : ℕ) (j : Judgement Header). header_to (m + 1) j) (sym (field_line t ∙ rw past)) (sym judged_so)

pub ruleset header_laws = (rules, not-true, not-false, other_word_lem, its_numbers)
