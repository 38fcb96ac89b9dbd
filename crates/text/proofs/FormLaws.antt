-- The header line and the lines of circuits and schedules are lawful forms, and what passes the tests is read back. Assumes nothing.
use Rattle.std.specs.Prelude as Std
use Rattle.std.specs.Prelude.{Some, None}
use Prim.Native.Nat.{ℕ, ◌≤◌}
use native.Mathlib.Omega.{arith}
use mathlib.Core.Path.{◌≡◌, refl, ap, ◌∙◌}
use mathlib.Core.Bool.{Bool, false}
use mathlib.Core.List.{List, [], ◌∷◌, ◌++◌}
use mathlib.Core.Option.{Option, none, some}
use lib.Dec.{T}
use lib.IntN.{ℤ, pos}
use lib.ListN.{length, get_or}
use Rattle.fields.specs.Pieces.{Bytes}
use Rattle.rows.specs.Fields.{Holds, operand, ranged, up_to_top, amount}
use Rattle.rows.specs.Forms.{Form, said_text, titled, either, named, worded}
use Rattle.rows.proofs.FieldLaws.{Held, number, Fields, no_field, field, AtMost, Bounded, fields_length, all_small, all_bounded, all_short}
use Rattle.rows.proofs.FormLaws.{LawfulForm, Letters, said_fields, titled_back, titled_law, titled_forth, titled_fewer, either_back, either_law, either_first, either_second, worded_back, worded_law, worded_forth, made_law, made_forth}
use Rattle.model.specs.declared.Grammar.TheVariants.{Circuit, Schedule}
use Rattle.model.specs.declared.Word.{Word}
use Rattle.model.specs.declared.Header.{Header}
use Rattle.model.specs.declared.Line.{Line}
use Rattle.model.specs.Scales.{three_fields, header_fields, headroom_numbers, header_numbers, header_in_range}
use Rattle.model.specs.Words.{entry, words, has_word, operands_among}
use Rattle.model.specs.Files.{said, line_of, word_of, row_of, is_word, operands, in_range, is_usable, kind_at, every_usable}
use Rattle.model.proofs.Tests.{and_first, and_second, Within, HeadroomFacts, HeaderFacts, header_facts}
use Rattle.model.proofs.EveryWord.{every_word_lem, line_said}
use Rattle.model.proofs.Formed.{usable_below}
use Rattle.text.specs.Files.{header_of, header_under, vocabulary, line_form, begins_kept}
use Rattle.text.proofs.WordLaws.{word_letters, named_word, said_held, said_line}

-- ---- the header line
-- the fields of three numbers, and of four
abbrev headroom_fields : Std.Option ℕ → List Holds
headroom_fields None = []
headroom_fields (Some bits) = ranged 1 60 ∷ []

abbrev pub fields_with : Std.Option ℕ → List Holds
fields_with given = three_fields ++ headroom_fields given

pub header_bounded : (h : Header) → HeaderFacts h → Fields (Bounded 0 0) (fields_with h.headroom) (header_numbers h)
header_bounded h facts = field (one facts.factor) (field (one facts.waterline) (field (one facts.top) (last h.headroom facts.headroom)))
  where
    one : {n : ℕ} → Within 1 60 n → Bounded 0 0 (ranged 1 60) (pos n)
    one {n} w = record { held = number n; bound = w.most }

    last : (given : Std.Option ℕ) → HeadroomFacts given → Fields (Bounded 0 0) (headroom_fields given) (headroom_numbers given)
    last None f = no_field
    last (Some bits) f = field (one f) no_field

header_held : (h : Header) → Fields Held (fields_with h.headroom) (header_numbers h)
header_held h = field (number h.factor) (field (number h.waterline) (field (number h.top) (last h.headroom)))
  where
    last : (given : Std.Option ℕ) → Fields Held (headroom_fields given) (headroom_numbers given)
    last None = no_field
    last (Some bits) = field (number bits) no_field

header_back : (h : Header) → header_of (header_numbers h) ≡ h
header_back h = go h.headroom refl
  where
    go : (given : Std.Option ℕ) → h.headroom ≡ given → header_of (header_numbers h) ≡ h
    go None e = rw e
    go (Some bits) e = rw e

pub three_made : {ns : List ℤ} → Fields Held three_fields ns → header_numbers (header_of ns) ≡ ns
three_made (field (number f) (field (number w) (field (number l) no_field))) = refl

pub four_made : {ns : List ℤ} → Fields Held header_fields ns → header_numbers (header_of ns) ≡ ns
four_made (field (number f) (field (number w) (field (number l) (field (number b) no_field)))) = refl

module _ (word : Bytes) (are : Letters word) where
  abbrev numbers_form : Form (List ℤ)
  numbers_form = either (titled word three_fields) (titled word header_fields)

  numbers_made : (p : Bytes) (ns : List ℤ) → numbers_form.reads p ≡ some ns → header_numbers (header_of ns) ≡ ns
  numbers_made p ns e =
      either_back (titled word three_fields) (titled word header_fields) p e (λ ms. header_numbers (header_of ms) ≡ ms)
      (λ ms q. three_made (titled_back word three_fields p q).held) (λ ms q. four_made (titled_back word header_fields p q).held)

  pub header_law : LawfulForm (header_under word)
  header_law =
      made_law header_of header_numbers numbers_form numbers_made
      (either_law (titled word three_fields) (titled word header_fields) (λ ns. refl) (titled_law word three_fields are) (titled_law word header_fields are))

  numbers_forth : (given : Std.Option ℕ) {ns : List ℤ} → Fields Held (fields_with given) ns → Fields (Bounded 0 0) (fields_with given) ns
      → numbers_form.reads (said_text word ns) ≡ some ns
  numbers_forth None {ns} held bounded =
      either_first (titled word three_fields) (titled word header_fields) (said_text word ns) (titled_forth word three_fields are held (all_short 0 0 tt bounded))
  numbers_forth (Some bits) {ns} held bounded =
      let four = fields_length held in
      either_second (titled word three_fields) (titled word header_fields) (said_text word ns) (titled_fewer word three_fields are ns (omega arith))
      (titled_forth word header_fields are held (all_short 0 0 tt bounded))

  pub header_forth : (h : Header) → T (header_in_range h) → (header_under word).reads ((header_under word).text h) ≡ some h
  header_forth h r = made_forth header_of header_numbers numbers_form h (header_back h) (numbers_forth h.headroom (header_held h) (header_bounded h (header_facts h r)))

-- ---- a line
pub line_law : LawfulForm line_form
line_law =
    made_law (λ s. line_of s.word s.numbers) said (worded vocabulary) (λ p s e. said_line s.word (worded_back vocabulary p e).held)
    (worded_law vocabulary word_letters)

-- usable operands name earlier lines
pub operands_most : (top most : ℕ) (before : List Line) → length before ≤ most → {fs : List Holds} {ns : List ℤ} → Fields Held fs ns
    → T (every_usable before (operands_among fs ns)) → Fields (AtMost top most) fs ns
operands_most top most before few no_field u = no_field
operands_most top most before few (field {f = operand} {fs = fs} {ns = ns} (number a) hs) u =
    let low = usable_below before a (and_first (is_usable (kind_at before a)) (every_usable before (operands_among fs ns)) u) in
    let here : a ≤ most = omega arith in
    field here (operands_most top most before few hs (and_second (is_usable (kind_at before a)) (every_usable before (operands_among fs ns)) u))
operands_most top most before few (field {f = ranged low high} h hs) u = field tt (operands_most top most before few hs u)
operands_most top most before few (field {f = up_to_top} h hs) u = field tt (operands_most top most before few hs u)
operands_most top most before few (field {f = amount high} h hs) u = field tt (operands_most top most before few hs u)

module _ (h : Header) (facts : HeaderFacts h) (before : List Line) (x : Line) (range : T (in_range h x)) (usable : T (every_usable before (operands x))) where
  pub line_bounded : (most : ℕ) → length before ≤ most → Fields (Bounded 60 most) (row_of x).fields (said x).numbers
  line_bounded most few = all_bounded 60 most h.top facts.top.most (said_held x) (operands_most 60 most before few (said_held x) usable) range

  pub line_forth : length before ≤ 1792 → T (has_word Schedule (word_of x)) → line_form.reads (line_form.text x) ≡ some x
  line_forth few word =
      let small = every_word_lem (λ w. all_small 60 1792 (entry w).fields) tt (word_of x) in
      made_forth (λ s. line_of s.word s.numbers) said (worded vocabulary) x (line_said x)
      (worded_forth vocabulary word_letters (said x) (named_word (word_of x) word) (said_held x) (all_short 60 1792 small (line_bounded 1792 few)))

-- ---- the first field of a line's text
abbrev pub is_kept_word : Option Word → Bool
is_kept_word o = elim o [ none ↦ false | some w ↦ has_word Circuit w ]

pub begins_kept_lem : (x : Line) → T (has_word Schedule (word_of x)) → begins_kept (line_form.text x) ≡ is_word Circuit x
begins_kept_lem x w =
    ap (λ (fields : List Bytes). is_kept_word (named vocabulary words (get_or fields 0 []))) (said_fields (row_of x).bytes (word_letters (word_of x)) (said x).numbers)
    ∙ ap is_kept_word (named_word (word_of x) w)
