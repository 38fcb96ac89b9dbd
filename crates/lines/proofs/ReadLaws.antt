-- A whole line: one law for each return of the code, its premises the tests on the way and what the callees ensure. Assumes nothing.
use Prim.Native.Nat.{ℕ, ◌+◌, ◌≤◌}
use native.Mathlib.Omega.{arith}
use mathlib.Core.Path.{◌≡◌, refl, sym, ap, ap₂, ◌∙◌, subst}
use mathlib.Core.Bool.{Bool, true, false}
use mathlib.Core.List.{List, [], ◌∷◌, map}
use mathlib.Core.Option.{Option, none, some}
use borrow.Author.Rules.{rules}
use borrow.Author.Tests.{not-true, not-false}
use lib.Dec.{T, leb, leb→le}
use lib.IntN.{ℤ, pos}
use lib.Signed.{non_neg}
use lib.ListN.{length, get_or, drop, length-drop, length-take}
use mir.Syntax.{w64}
use mir.Val.{to_z, of_z}
use Rattle.fields.specs.Pieces.{Bytes}
use Rattle.rows.specs.Fields.{Holds}
use Rattle.rows.specs.Rows.{place_of, bad, refused, Tests, judged}
use Rattle.rows.proofs.FieldLaws.{Held, Fields}
use Rattle.model.specs.declared.Grammar.{Grammar}
use Rattle.model.specs.declared.Header.{Header}
use Rattle.model.specs.declared.Line.{Line}
use Rattle.model.specs.declared.Word.{Word}
use Rattle.model.specs.Scales.{header_in_range}
use Rattle.model.specs.Words.{has_word}
use Rattle.model.specs.Files.{line_of, is_word}
use Rattle.model.proofs.Tests.{header_facts}
use Rattle.listings.specs.declared.Levels.{Levels}
use Rattle.listings.specs.Listings.{Listed, ListedWord, word_fields, listed_of}
use Rattle.std.specs.Prelude.{Result, Ok, Err}
use Rattle.model.specs.declared.Fault.TheVariants.{NotOfForm, NumberOutOfRange}
use Rattle.model.specs.declared.Refusal.{Refusal}
use Rattle.model.specs.Refusals.{number_of}
use Rattle.forms.specs.declared.Numbers.{Numbers}
use Rattle.forms.specs.Along.{line_in, numbers_in}
use Rattle.forms.specs.Asked.{Asked, read_as, any_outside, all_held, numbers_from, numbers_to}
use Rattle.forms.proofs.TextLaws.{alike_numbers, small_held, numbers_closed, numbers_held}
use Rattle.tables.specs.declared.Record.{Record}
use Rattle.tables.specs.Records.{lines_of, lines_held}
use Rattle.words.specs.declared.WordAt.{WordAt}
use Rattle.words.specs.Words.{row_of, held_word, row_in, word_found, listed_word}
use Rattle.judging.specs.declared.StoredLine.{StoredLine}
use Rattle.judging.specs.declared.FormedLine.{FormedLine}
use Rattle.judging.specs.Judging.{NumbersFit, line_read, line_to, judged_as}
use Rattle.lines.proofs.LevelLaws.{level_refused}
use Rattle.lines.specs.Lines.{held_as, tested_as, listed_tests, turns_level, asked_by, level_held, word_judged}
use Rattle.lines.proofs.HeldLaws.{asked_of, every_listed, judged_same}
use Rattle.lines.proofs.AskedLaws.{held_line_of, range_of, held_at, LevelFits, Asking, asking}
use Rattle.lines.proofs.LineLaws.{tested_word, operand_tests_lem, judged_held}

-- ---- what an answer says: no numbers, one outside its range, or all of them as they are held
abbrev as_numbers : ℤ → ℤ → ℤ → ℕ → Numbers
as_numbers x y z e = record { first = x; second = y; third = z; end = e }

pub data Answered (gs : List Asked) (place end : ℕ) (o : Option (List ℤ)) (r : Result Numbers Refusal) : Type 0 where
  no_numbers : o ≡ none → r ≡ Err (record { fault = NotOfForm; place = place }) → Answered gs place end o r
  one_outside : (ns : List ℤ) → o ≡ some ns → any_outside gs ns ≡ true → r ≡ Err (record { fault = NumberOutOfRange; place = place }) → Answered gs place end o r
  all_inside : (ns : List ℤ) → o ≡ some ns → any_outside gs ns ≡ false → r ≡ Ok (numbers_from (all_held gs ns) end) → Answered gs place end o r

pub answered : (gs : List Asked) (place end : ℕ) (o : Option (List ℤ)) (r : Result Numbers Refusal) → r ≡ numbers_to gs place end o → Answered gs place end o r
answered gs place end none r e = no_numbers refl e
answered gs place end (some ns) r e = go (any_outside gs ns) refl
  where
    go : (b : Bool) → any_outside gs ns ≡ b → Answered gs place end (some ns) r
    go true q = one_outside ns refl q (e ∙ rw q)
    go false q = all_inside ns refl q (e ∙ rw q)

-- no numbers were told, or one is outside its range
pub data Faulty (gs : List Asked) (place : ℕ) (o : Option (List ℤ)) (x : Refusal) : Type 0 where
  unformed : o ≡ none → x ≡ record { fault = NotOfForm; place = place } → Faulty gs place o x
  outside : (ns : List ℤ) → o ≡ some ns → any_outside gs ns ≡ true → x ≡ record { fault = NumberOutOfRange; place = place } → Faulty gs place o x

-- numbers that are held
pub record Told (gs : List Asked) (o : Option (List ℤ)) (end : ℕ) (x y z : ℤ) (e : ℕ) : Type 0 where
  pub given : List ℤ
  pub read : o ≡ some given
  pub inside : any_outside gs given ≡ false
  pub first : x ≡ get_or (all_held gs given) 0 (pos 0)
  pub second : y ≡ get_or (all_held gs given) 1 (pos 0)
  pub third : z ≡ get_or (all_held gs given) 2 (pos 0)
  pub ends : e ≡ end

module _ {gs : List Asked} {place end : ℕ} {o : Option (List ℤ)} {r : Result Numbers Refusal} (a : Answered gs place end o r) where
  pub not_told : {x : Refusal} → r ≡ Err x → Faulty gs place o x
  not_told {x} is = go a
    where
      go : Answered gs place end o r → Faulty gs place o x
      go (no_numbers q a) = unformed q cc
      go (one_outside ns q u a) = outside ns q u cc
      go (all_inside ns q u a) = absurd (let z : ◌≡◌ {A = ℕ} 0 1 = cc in omega arith)

  pub told : {x y z : ℤ} {e : ℕ} → r ≡ Ok (as_numbers x y z e) → Told gs o end x y z e
  told {x} {y} {z} {e} is = go a
    where
      go : Answered gs place end o r → Told gs o end x y z e
      go (no_numbers nothing a) = absurd (let z : ◌≡◌ {A = ℕ} 0 1 = cc in omega arith)
      go (one_outside ns q u a) = absurd (let z : ◌≡◌ {A = ℕ} 0 1 = cc in omega arith)
      go (all_inside ns q u a) =
          let same : ◌≡◌ {A = Numbers} (as_numbers x y z e) (numbers_from (all_held gs ns) end) = cc in
          record {
            given = ns;
            read = q;
            inside = u;
            first = ap (λ (m : Numbers). m.first) same;
            second = ap (λ (m : Numbers). m.second) same;
            third = ap (λ (m : Numbers). m.third) same;
            ends = ap (λ (m : Numbers). m.end) same;
          }

-- as the machine holds a number
abbrev machine : ℤ → ℤ
machine z = to_z w64 (of_z w64 z)

-- ---- the line of a word
-- no word has more than three fields
pub three_fields_lem : (found : WordAt) → found ≡ word_found (listed_word found) found.end → found.row.fields ≤ 3
three_fields_lem found q =
    let v = listed_word found in
    let few = leb→le (length (word_fields v)) 3 (every_listed (λ u. leb (length (word_fields u)) 3) tt v) in
    omega (arith, ap (λ (f : WordAt). f.row.fields) q)

module _ (levels : Levels) (h : Header) (found : WordAt) (is_found : found ≡ word_found (listed_word found) found.end) (n : ℕ) (s : Bytes) where
  abbrev v : ListedWord
  v = listed_word found

  abbrev rest : Bytes
  rest = drop found.end s

  abbrev end : ℕ
  end = found.end + length (line_in rest)

  held_as_lem : found.word ≡ held_word v
  held_as_lem = ap (λ (f : WordAt). f.word) is_found

  pub no_word : (g : Grammar) (lines : List Line) (t : Bool) → t ≡ has_word g found.word → t ≡ false
      → refused 1 (n + 2) ≡ line_to (place_of n) (end + 1) (word_judged levels g h lines v rest)
  unfolding word_judged
  no_word g lines t q e = let lacks : has_word g (held_word v) ≡ false = ap (has_word g) (sym held_as_lem) ∙ sym q ∙ e in rw lacks

  module _ (turns : Bool) (is_turned : turns ≡ turns_level levels found.row.fields) (header : T (header_in_range h)) (r : Result Numbers Refusal)
      (q : r ≡ numbers_to (asked_by turns found.row h.top) (n + 2) end (numbers_in (map read_as (asked_by turns found.row h.top)) rest)) where
    few : h.top ≤ 60
    few = (header_facts h header).top.most

    -- what is asked of the word's fields
    asks : Asking levels h v
    asks = asking levels h few v

    abbrev fs : List Holds
    fs = asks.fields

    abbrev gs : List Asked
    gs = map (asked_of h.top) fs

    turns_so : turns ≡ turns_level levels (row_in v).fields
    turns_so = is_turned ∙ ap (λ (f : WordAt). turns_level levels f.row.fields) is_found

    described_so : asked_by turns found.row h.top ≡ gs
    described_so = ap₂ (λ (b : Bool) (f : WordAt). asked_by b f.row h.top) turns_so is_found ∙ asks.asked

    -- by which they are read as by their description
    answer : Answered gs (n + 2) end (numbers_in (word_fields v) rest) r
    answer =
        answered gs (n + 2) end (numbers_in (word_fields v) rest) r
        (q ∙ ap (λ (as' : List Asked). numbers_to as' (n + 2) end (numbers_in (map read_as as') rest)) described_so
        ∙ ap (numbers_to gs (n + 2) end) (sym (alike_numbers (word_fields v) (map read_as gs) rest asks.read_so)))

    held_so : (ns : List ℤ) → numbers_in (word_fields v) rest ≡ some ns → Fields Held fs ns
    held_so ns read = numbers_held fs rest (sym (alike_numbers (word_fields v) fs rest asks.same) ∙ read)

    -- the numbers that are told, each as it is held
    module _ (x y z : ℤ) (e : ℕ) (is : r ≡ Ok (as_numbers x y z e)) where
      numbers_told : Told gs (numbers_in (word_fields v) rest) end x y z e
      numbers_told = told answer is

      pub past_within : e + 1 ≤ length s
      past_within = omega (arith, length-drop found.end s, numbers_told.ends, numbers_closed (word_fields v) rest numbers_told.read)

      given_held : Fields Held fs numbers_told.given
      given_held = held_so numbers_told.given numbers_told.read

      abbrev at : ℕ → ℤ
      at j = held_at h fs numbers_told.given j

      as_held : (u : ℤ) (j : ℕ) → u ≡ at j → machine u ≡ at j
      as_held u j e = ap machine e ∙ small_held (at j) (asks.smalls numbers_told.given given_held numbers_told.inside j)

      first_is : machine x ≡ at 0
      first_is = as_held x 0 numbers_told.first

      second_is : machine y ≡ at 1
      second_is = as_held y 1 numbers_told.second

      third_is : machine z ≡ at 2
      third_is = as_held z 2 numbers_told.third

      pub level_unsigned : turns ≡ true → T (non_neg (machine z))
      level_unsigned t = subst (λ (u : ℤ). T (non_neg u)) (sym third_is) (asks.unsigned (sym turns_so ∙ t) numbers_told.given given_held numbers_told.inside)

      module _ (level : Result ℤ Refusal) (turned : level ≡ level_held (n + 2) turns h.top (machine y) (machine z)) where
        turned_so : level_held (n + 2) (turns_level levels (row_in v).fields) h.top (at 1) (at 2) ≡ level
        turned_so = sym (turned ∙ (λ i. level_held (n + 2) (turns_so i) h.top (second_is i) (third_is i)))

        low : (k : Refusal) → level ≡ Err k → range_of levels h v numbers_told.given ≡ false
        low k q = asks.too_low numbers_told.given given_held numbers_told.inside (n + 2) k (turned_so ∙ q)

        module _ (u : ℤ) (held : level ≡ Ok u) where
          fits : LevelFits levels h v fs numbers_told.given u
          fits = asks.level_held_lem numbers_told.given given_held numbers_told.inside (n + 2) u (turned_so ∙ held)

          level_is : machine u ≡ u
          level_is = small_held u fits.small

          -- the line that is judged, as the machine holds its numbers
          pub line_fits : (line : FormedLine) → line ≡ record { word = found.word; asks = found.row.asks; first = machine x; second = machine y; third = machine u; end = e + 1 }
              → NumbersFit line.word line.first line.second line.third
          line_fits line made =
              subst (λ (l : FormedLine). NumbersFit l.word l.first l.second l.third) (sym made)
              (subst (λ (w : Word). NumbersFit w (machine x) (machine y) (machine u)) (sym held_as_lem)
              (subst (λ (k : ℤ). NumbersFit (held_word v) k (machine y) (machine u)) (sym first_is)
              (subst (λ (k : ℤ). NumbersFit (held_word v) (at 0) k (machine u)) (sym second_is)
              (subst (λ (k : ℤ). NumbersFit (held_word v) (at 0) (at 1) k) (sym level_is) fits.fit))))

    module _ (g : Grammar) (lines : List Line) (t : Bool) (k : t ≡ has_word g found.word) (has : t ≡ true) where
      has_word_lem : has_word g (held_word v) ≡ true
      has_word_lem = ap (has_word g) (sym held_as_lem) ∙ sym k ∙ has

      -- a line that was read is one of the file's
      module _ (ns : List ℤ) (read : numbers_in (word_fields v) rest ≡ some ns) where
        abbrev x : Listed
        x = listed_of v ns

        is_word_lem : is_word g (tested_as levels h x) ≡ true
        is_word_lem = ap (has_word g) (tested_word levels h v ns) ∙ has_word_lem

        tested : word_judged levels g h lines v rest ≡ judged (listed_tests levels g h lines x) (held_as levels h x)
        unfolding word_judged
        tested = rw (has_word_lem, read) (judged_held levels h (listed_tests levels g h lines x) x)

        out : range_of levels h v ns ≡ false → word_judged levels g h lines v rest ≡ bad 11
        out e = tested ∙ rw (is_word_lem, e)

        word_judged_lem : range_of levels h v ns ≡ true → word_judged levels g h lines v rest ≡ judged_as g lines (held_as levels h x)
        unfolding judged_as
        word_judged_lem e = tested ∙ rw (is_word_lem, e) (ap (λ (ts : Tests). judged ts (held_as levels h x)) (operand_tests_lem levels g h lines x))

      pub not_read : (k : Refusal) → r ≡ Err k → refused (number_of k.fault) k.place ≡ line_to (place_of n) (end + 1) (word_judged levels g h lines v rest)
      unfolding word_judged
      not_read k is = go (not_told answer is)
        where
          go : Faulty gs (n + 2) (numbers_in (word_fields v) rest) k → refused (number_of k.fault) k.place ≡ line_to (place_of n) (end + 1) (word_judged levels g h lines v rest)
          go (unformed q is) = rw (is, has_word_lem, q)
          go (outside ns q u is) =
              rw is (sym (ap (line_to (place_of n) (end + 1)) (out ns q (asks.outside ns (held_so ns q) u))))

      module _ (x y z : ℤ) (e : ℕ) (is : r ≡ Ok (as_numbers x y z e)) (level : Result ℤ Refusal) (turned : level ≡ level_held (n + 2) turns h.top (machine y) (machine z)) where
        abbrev numbers : Told gs (numbers_in (word_fields v) rest) end x y z e
        numbers = numbers_told x y z e is

        pub level_outside : (k : Refusal) → level ≡ Err k → refused (number_of k.fault) k.place ≡ line_to (place_of n) (end + 1) (word_judged levels g h lines v rest)
        level_outside k o =
            rw (level_refused (n + 2) turns h.top (machine y) (machine z) (sym turned ∙ o))
            (sym (ap (line_to (place_of n) (end + 1)) (out numbers.given numbers.read (low x y z e is level turned k o))))

        pub line_judged_lem :
            (u : ℤ) → level ≡ Ok u → length lines ≤ 1792 →
            (line : FormedLine) →
            line ≡ record { word = found.word; asks = found.row.asks; first = machine x; second = machine y; third = machine u; end = e + 1 } → (a : Result StoredLine Refusal) →
            line_read a ≡ line_to (place_of n) line.end (judged_as g lines (line_of line.word (line.first ∷ line.second ∷ line.third ∷ []))) →
            line_read a ≡ line_to (place_of n) (end + 1) (word_judged levels g h lines v rest)
        line_judged_lem u held short line made a j =
            let level_fits = fits x y z e is level turned u held in
            subst
            (λ (l : FormedLine). line_read a ≡ line_to (place_of n) l.end (judged_as g lines (line_of l.word (l.first ∷ l.second ∷ l.third ∷ []))))
            made j
            ∙ ap₂ (λ (m : ℕ) (l : Line). line_to (place_of n) (m + 1) (judged_as g lines l)) numbers.ends
            ((λ i. line_of (held_as_lem i) (first_is x y z e is i ∷ second_is x y z e is i ∷ level_is x y z e is level turned u held i ∷ [])) ∙ level_fits.line)
            ∙ ap (line_to (place_of n) (end + 1))
            (judged_same h.top few lines short g fs (held_line_of levels h v) asks.names (given_held x y z e is) numbers.inside
            ∙ sym (word_judged_lem numbers.given numbers.read level_fits.ranged))

pub held_few : (records : List Record) (count : ℕ) → count ≤ 1792 → length (lines_held records count) ≤ 1792
held_few records count few = omega (arith, length-take count (lines_of records))

-- what is known of the word is known of the line
module _ (found : WordAt) (is_found : found ≡ word_found (listed_word found) found.end) (x y z : ℤ) (e : ℕ) (line : FormedLine)
    (made : line ≡ record { word = found.word; asks = found.row.asks; first = x; second = y; third = z; end = e }) where
  pub line_asks : line.asks ≡ (row_of line.word).asks
  line_asks =
      ap (λ (l : FormedLine). l.asks) made ∙ ap (λ (f : WordAt). f.row.asks) is_found
      ∙ sym (ap (λ (l : FormedLine). (row_of l.word).asks) made ∙ ap (λ (f : WordAt). (row_of f.word).asks) is_found)

pub ruleset line_laws =
    (rules, not-true, not-false, three_fields_lem, no_word, not_read, level_unsigned, level_outside, line_fits, line_judged_lem, held_few, line_asks)
