-- The loop over a listing's lines that fills the schedule's records: what holds whenever its test is reached, and what each way on from there keeps.
-- Assumes nothing.
use Prim.Native.Nat.{ℕ, suc, ◌+◌, ◌-◌, ◌≤◌, ◌<◌}
use native.Mathlib.Numerals.{add-one}
use native.Mathlib.Omega.{arith}
use mathlib.Core.Path.{◌≡◌, refl, sym, ap, ◌∙◌, subst}
use mathlib.Core.Bool.{Bool, true, false, cond}
use mathlib.Core.List.{List, [], ◌∷◌, ◌++◌, append_assoc, append-nil}
use mathlib.Core.Logic.{⊎_elim}
use borrow.Author.Rules.{rules}
use lib.ListN.{length, get_or, take, set, replicate, length-set, length-append, length-replicate, get_or-replicate, get_or-eq_default}
use lib.Seq.{length-take-le, take_all, take-suc, take-suc-set, get_or-take}
use Rattle.rows.specs.Rows.{place_of}
use Rattle.model.specs.declared.Fault.TheVariants.{TooManyLines}
use Rattle.model.specs.declared.Refusal.{Refusal}
use Rattle.model.specs.declared.Grammar.TheVariants.{Schedule}
use Rattle.model.specs.declared.Header.{Header}
use Rattle.model.specs.declared.Line.{Line}
use Rattle.model.specs.declared.Line.TheVariants.{Rs, Us, Free}
use Rattle.model.specs.Files.{operands}
use Rattle.model.specs.Services.{renumbered}
use Rattle.model.proofs.Tests.{below_or_not}
use Rattle.text.specs.Tables.{TableFormed}
use Rattle.listings.specs.Held.{is_downscale, named, counted_table, convert_held_from, convert_held}
use Rattle.tables.specs.declared.Record.{Record}
use Rattle.tables.specs.Records.{line_of, lines_of, lines_held, free_records, held}
use Rattle.operands.specs.Operands.{first_operand, second_operand, with_operands}
use Rattle.tables.proofs.Records.{free_long}
use Rattle.tables.proofs.HeldLines.{records_long, stored_lines}
use Rattle.erasing.proofs.LineLaws.{renamed_is, origin_held}
use Rattle.rules.specs.Scales.{DownscalesBelow}
use Rattle.rules.proofs.Counted.{counted_few, records_room, lines_long, header_formed, word_formed, named_below}
use Rattle.listingtable.specs.declared.Becomes.{Becomes}
use Rattle.listingtable.specs.declared.Becomes.TheVariants.{One, Two}
use Rattle.listingtable.specs.Conversion.{LineReady, LineBecomes, one_line, two_lines, becomes_lines, converted_by, HoldsConverted, NoRoom}

-- The loop's invariant: the records hold what the first i lines become, and whatever follows those is converted by the names so far. Before the
-- first line every name is 0.
pub record Converting (h : Header) (listing : List Record) (count : ℕ) (scales : List ℕ) (schedule : List Record) (names : List ℕ) (at i : ℕ) : Type 0 where
  pub formed : TableFormed Schedule (counted_table (held h listing count))
  pub below : DownscalesBelow h (lines_held listing count) scales
  pub few : count ≤ 1792
  pub most : i ≤ count
  pub fits : at ≤ 1792
  pub fewer : at ≤ i + i
  pub wide : length names ≡ 1792
  pub fresh : i ≡ 0 → names ≡ replicate 1792 0
  pub room : length schedule ≡ 1792
  pub left :
      (rest : List Line) →
      convert_held h (λ a. get_or scales a 0) (take i (lines_held listing count) ++ rest)
      ≡ lines_held schedule at ++ convert_held_from h (λ a. get_or scales a 0) (take i names) at rest

-- the records were free, and are as many as they were
pub as_many : (before after : List Record) → before ≡ free_records → length after ≡ 1792 → length after ≡ length before
as_many before after free room = room ∙ sym (free_long before free)

pub start :
    (h : Header) (listing : List Record) (count : ℕ) (scales : List ℕ) (schedule : List Record) → TableFormed Schedule (counted_table (held h listing count)) →
    DownscalesBelow h (lines_held listing count) scales → schedule ≡ free_records → Converting h listing count scales schedule (replicate 1792 0) 0 0
start h listing count scales schedule formed below free =
    record {
      formed = formed;
      below = below;
      few = counted_few h listing count formed;
      most = omega arith;
      fits = omega arith;
      fewer = omega arith;
      wide = length-replicate {A = ℕ} 1792 0;
      fresh = λ e. refl;
      room = free_long schedule free;
      left = λ rest. refl;
    }

module _
    (h : Header) (listing : List Record) (count : ℕ) (scales : List ℕ) (schedule : List Record) (names : List ℕ) (at i : ℕ)
    (k : Converting h listing count scales schedule names at i) where
  abbrev lines : List Line
  lines = lines_held listing count

  abbrev line : Line
  line = get_or (lines_of listing) i Free

  abbrev scale : ℕ → ℕ
  scale a = get_or scales a 0

  long_lines : length lines ≡ count
  long_lines = lines_long h listing count k.formed

  held_long : length (lines_held schedule at) ≡ at
  held_long = length-take-le at (lines_of schedule) (omega (arith, records_long schedule k.room, k.fits))

  pub still_room : length schedule ≡ 1792
  still_room = k.room

  -- room for two records
  pub second_there : (us : Record) → at < 1791 → at + 1 < length (set schedule at us)
  second_there us free = omega (arith, length-set schedule at us, k.room)

  -- what the lines so far become
  so_far : convert_held h scale (take i lines) ≡ lines_held schedule at
  so_far =
      ap (convert_held h scale) (sym (append-nil (take i lines))) ∙ k.left [] ∙ append-nil (lines_held schedule at)

  -- every line is read
  pub all_converted : count ≤ i → HoldsConverted h scale lines at schedule
  all_converted end =
      let past : length lines ≤ i = omega (arith, long_lines) in
      let whole : convert_held h scale lines ≡ lines_held schedule at = ap (convert_held h scale) (sym (take_all i lines past)) ∙ so_far in
      record { held = sym whole; long = ap (length {A = Line}) whole ∙ held_long; few = k.fits }

  module _ (inside : i < count) where
    line_is : get_or lines i Free ≡ line
    line_is = get_or-take count (lines_of listing) i Free inside

    named_small : (most j : ℕ) → i ≤ most → 0 < most → get_or (operands line) j 0 < most
    named_small most j few some = named_below h listing count k.formed i inside most few some j

    pub line_ready : LineReady h listing scales i
    unfolding first_operand second_operand
    line_ready =
        record {
          ranged = header_formed h listing count k.formed;
          there = omega (arith, k.few, records_room h listing count k.formed);
          word = word_formed h listing count k.formed i inside;
          first = named_small 1792 0 (omega (arith, k.few)) (omega arith);
          second = named_small 1792 1 (omega (arith, k.few)) (omega arith);
          below = λ t. subst (λ (x : Line). scale (named x) < h.waterline + h.factor) line_is (k.below.below i (omega (arith, long_lines)) (rw line_is t));
        }

    pub place_fits : i < 1792
    place_fits = omega (arith, k.few)

    -- ---- the names of what line i names
    names_long : length (take i names) ≡ i
    names_long = length-take-le i names (omega (arith, k.wide, k.few))

    name_is : (j : ℕ) → get_or names (get_or (operands line) j 0) 0 ≡ get_or (take i names) (get_or (operands line) j 0) at
    name_is j =
        let a = get_or (operands line) j 0 in
        ⊎_elim
        (λ some.
        let l = named_small i j (omega arith) some in
        sym (get_or-take i names a 0 l) ∙ origin_held (take i names) a at (omega (arith, names_long)))
        (λ none.
        let e : i ≡ 0 = omega arith in
        ap (λ (l : List ℕ). get_or l a 0) (k.fresh e)
        ∙ get_or-replicate 1792 a 0 0 (named_small 1792 j (omega arith) (omega arith))
        ∙ sym (get_or-eq_default (take i names) at (omega (arith, names_long)) ∙ (omega (arith, k.fewer))))
        (below_or_not 0 i)

    names_before : (n : ℕ) → take (i + 1) (set names i n) ≡ take i names ++ (n ∷ [])
    names_before n = rw (add-one i, take-suc-set names i n (omega (arith, k.wide, k.few)))

    -- ---- what line i becomes, and what follows it
    abbrev after : LineBecomes → List Line → List Line
    after (one_line y) rest = y ∷ convert_held_from h scale (take i names ++ (at ∷ [])) (suc at) rest
    after (two_lines a bits) rest = Us a bits ∷ Rs at 1 ∷ convert_held_from h scale (take i names ++ (suc at ∷ [])) (suc (suc at)) rest

    next : (rest : List Line) → convert_held_from h scale (take i names) at (line ∷ rest) ≡ after (converted_by h scales names line) rest
    unfolding first_operand second_operand
    next rest = go (is_downscale line)
      where
        go :
            (b : Bool) →
            cond b
            (Us (get_or (take i names) (named line) at) (h.waterline + h.factor - scale (named line))
            ∷ Rs at 1 ∷ convert_held_from h scale (take i names ++ (suc at ∷ [])) (suc (suc at)) rest)
            (renumbered (take i names) at line ∷ convert_held_from h scale (take i names ++ (at ∷ [])) (suc at) rest)
            ≡ after
            (cond b (two_lines (get_or names (first_operand line) 0) (h.waterline + h.factor - scale (first_operand line)))
            (one_line (with_operands line (get_or names (first_operand line) 0) (get_or names (second_operand line) 0)))) rest
        go true = rw (name_is 0)
        go false = rw (name_is 0, name_is 1, renamed_is (λ a. get_or (take i names) a at) line)

    one_more_lem : (rest : List Line) → take (i + 1) lines ++ rest ≡ take i lines ++ (line ∷ rest)
    one_more_lem rest =
        rw (add-one i, take-suc lines i Free (omega (arith, long_lines)), line_is) (append_assoc (take i lines) (line ∷ []) rest)

    module _ (r : Becomes) (told : becomes_lines r ≡ converted_by h scales names line) where
      from_here : (rest : List Line) → convert_held h scale (take i lines ++ (line ∷ rest)) ≡ lines_held schedule at ++ after (becomes_lines r) rest
      from_here rest =
          k.left (line ∷ rest) ∙ ap (λ (l : List Line). lines_held schedule at ++ l) (next rest ∙ ap (λ (b : LineBecomes). after b rest) (sym told))

      -- with line i
      with_line : convert_held h scale (take (suc i) lines) ≡ lines_held schedule at ++ after (becomes_lines r) []
      with_line =
          ap (convert_held h scale) (take-suc lines i Free (omega (arith, long_lines)) ∙ ap (λ (x : Line). take i lines ++ (x ∷ [])) line_is) ∙ from_here []

      no_room :
          (more : ℕ) → length (after (becomes_lines r) []) ≡ more → 1792 < at + more → (x : Refusal) → x ≡ record { fault = TooManyLines; place = place_of i } →
          NoRoom h scale lines x
      no_room more long over x is =
          record {
            line_number = i;
            fault_is = ap (λ (y : Refusal). y.fault) is;
            place_is = ap (λ (y : Refusal). y.place) is;
            below = omega (arith, long_lines);
            before = omega (arith, ap (length {A = Line}) so_far, held_long, k.fits);
            with_it =
                omega (arith, ap (length {A = Line}) with_line, length-append (lines_held schedule at) (after (becomes_lines r) []), held_long);
          }

      -- the schedule is full
      pub full_at_one : (m : Record) → r ≡ One m → 1792 ≤ at → (x : Refusal) → x ≡ record { fault = TooManyLines; place = place_of i } → NoRoom h scale lines x
      full_at_one m e over =
          no_room 1 (ap (λ (r' : Becomes). length (after (becomes_lines r') [])) e) (omega arith)

      pub full_at_two :
          (a bits : ℕ) → r ≡ Two a bits → 1791 ≤ at → (x : Refusal) → x ≡ record { fault = TooManyLines; place = place_of i } → NoRoom h scale lines x
      full_at_two a bits e over =
          no_room 2 (ap (λ (r' : Becomes). length (after (becomes_lines r') [])) e) (omega arith)

      -- the lines that it becomes are stored, and one of them stands for it
      goes_on :
          (schedule' : List Record) (n at' : ℕ) (stored : List Line) → length schedule' ≡ 1792 → at' ≤ 1792 → at' ≤ at + 2 →
          lines_held schedule' at' ≡ lines_held schedule at ++ stored →
          ((rest : List Line) → after (becomes_lines r) rest ≡ stored ++ convert_held_from h scale (take i names ++ (n ∷ [])) at' rest) →
          Converting h listing count scales schedule' (set names i n) at' (i + 1)
      goes_on schedule' n at' stored long fits fewer holds becomes =
          record {
            formed = k.formed;
            below = k.below;
            few = k.few;
            most = omega arith;
            fits = fits;
            fewer = omega (arith, k.fewer);
            wide = length-set names i n ∙ k.wide;
            fresh = λ none. absurd (omega arith);
            room = long;
            left = λ rest.
                rw (one_more_lem rest, names_before n)
                (from_here rest
                ∙ ap (λ (l : List Line). lines_held schedule at ++ l) (becomes rest)
                ∙ sym (append_assoc (lines_held schedule at) stored (convert_held_from h scale (take i names ++ (n ∷ [])) at' rest))
                ∙ ap (λ (l : List Line). l ++ convert_held_from h scale (take i names ++ (n ∷ [])) at' rest) (sym holds));
          }

      module _ (schedule' : List Record) (names' : List ℕ) (at' : ℕ) where
        pub after_one :
            (m : Record) → r ≡ One m → at < 1792 → schedule' ≡ set schedule at m → names' ≡ set names i at → at' ≡ at + 1 →
            Converting h listing count scales schedule' names' at' (i + 1)
        after_one m e free p q n =
            rw (p, q, n)
            (goes_on (set schedule at m) at (at + 1) (line_of m ∷ []) (length-set schedule at m ∙ k.room) (omega arith) (omega arith)
            (stored_lines schedule at m (line_of m) (omega (arith, k.room)) refl)
            (λ rest. ap (λ (r' : Becomes). after (becomes_lines r') rest) e ∙ rw (add-one at)))

        pub after_two :
            (a bits : ℕ) → r ≡ Two a bits → at < 1791 → (us rs : Record) → line_of us ≡ Us a bits → line_of rs ≡ Rs at 1 →
            schedule' ≡ set (set schedule at us) (at + 1) rs → names' ≡ set names i (at + 1) → at' ≡ at + 2 →
            Converting h listing count scales schedule' names' at' (i + 1)
        after_two a bits e free us rs us-is rs-is p q n =
            let first_long = length-set schedule at us ∙ k.room in
            let long = length-set (set schedule at us) (at + 1) rs ∙ first_long in
            let two : at + 2 ≡ at + 1 + 1 = omega arith in
            rw (p, q, n, two)
            (goes_on (set (set schedule at us) (at + 1) rs) (at + 1) (at + 1 + 1) (Us a bits ∷ Rs at 1 ∷ []) long (omega arith) (omega arith)
            (stored_lines (set schedule at us) (at + 1) rs (Rs at 1) (omega (arith, first_long)) rs-is
            ∙ ap (λ (l : List Line). l ++ (Rs at 1 ∷ [])) (stored_lines schedule at us (Us a bits) (omega (arith, k.room)) us-is)
            ∙ append_assoc (lines_held schedule at) (Us a bits ∷ []) (Rs at 1 ∷ []))
            (λ rest. ap (λ (r' : Becomes). after (becomes_lines r') rest) e ∙ rw (add-one (at + 1), add-one at)))

pub ruleset converting_laws = (rules, as_many, start, still_room, line_ready, place_fits)
