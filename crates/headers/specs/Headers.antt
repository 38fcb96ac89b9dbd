-- What the code uses: the header line that a text begins with, and what an answer says of it.
use Rattle.std.specs.Prelude.{Result, Ok, Err, ℕ, Bool, false, cond, ◌||◌, [], ◌∷◌, eqb, pos, nat_abs, Option, Some, None, unwrap_or}
use Rattle.std.proofs.Math.Option.{map}
use Rattle.fields.specs.Pieces.{Bytes}
use Rattle.fields.specs.declared.FieldAt.{FieldAt}
use Rattle.rows.specs.Forms.{Form, or_else}
use Rattle.rows.specs.Rows.{Judgement, good, bad, Reading, read, Tests, formed, at}
use Rattle.model.specs.declared.Grammar.{Grammar}
use Rattle.model.specs.declared.Header.{Header}
use Rattle.model.specs.declared.Refusal.{Refusal}
use Rattle.model.specs.declared.Fault.TheVariants.{NotOfForm}
use Rattle.model.specs.Scales.{three_fields, header_fields, header_in_range}
use Rattle.model.specs.Words.{ascii}
use Rattle.text.specs.Files.{header_word, header_of, header_under}
use Rattle.listings.specs.declared.Levels.{Levels}
use Rattle.listings.specs.declared.Levels.TheVariants.{Falling, Rising}
use Rattle.forms.specs.Along.{line_in, is_closed, numbers_in}
use Rattle.forms.specs.Asked.{field_after}

-- ---- its word and its form
abbrev pub header_word_of : Levels → Grammar → Bytes
header_word_of Falling g = header_word g
header_word_of Rising g = ascii "rising"

abbrev pub header_form_of : Levels → Grammar → Form Header
header_form_of levels g = header_under (header_word_of levels g)

abbrev pub header_to : ℕ → Judgement Header → Reading (Header × ℕ)
header_to end j = at 1 j (λ h. read (h, end))

-- one of its numbers, after a tab that stands here, as it is held: 0 where it is above 60
abbrev pub not_of_form : Refusal
not_of_form = record { fault = NotOfForm; place = 1 }

abbrev pub number_to : Option FieldAt → Result (ℕ × ℕ) Refusal
number_to (Some field) = Ok (nat_abs (unwrap_or field.number (pos 0)), field.end)
number_to None = Err not_of_form

unfoldable pub number_at : Bytes → ℕ → Result (ℕ × ℕ) Refusal
number_at s at = number_to (field_after false 60 s at)

-- the numbers as they are held: 0 is outside their range
abbrev pub header_with : ℕ → ℕ → ℕ → Option ℕ → Header
header_with f w l given = record { factor = f; waterline = w; top = l; headroom = given }

abbrev pub is_outside : Option ℕ → Bool
is_outside None = false
is_outside (Some bits) = eqb bits 0

abbrev pub has_outside : Header → Bool
has_outside h = eqb h.factor 0 || (eqb h.waterline 0 || (eqb h.top 0 || is_outside h.headroom))

abbrev pub held_judged : Header → Judgement Header
held_judged h = cond (has_outside h) (bad 2) (good h)

-- the header line whose word ends here, and the one that a text begins with
abbrev pub header_tests : Header → Tests
header_tests h = (2, header_in_range h) ∷ []

unfoldable pub numbers_judged : Bytes → Judgement Header
numbers_judged t = formed (map header_of (or_else (numbers_in three_fields t) (numbers_in header_fields t))) header_tests

unfoldable pub header_judged : Levels → Grammar → Bytes → Judgement Header
header_judged levels g t = cond (is_closed t) (formed ((header_form_of levels g).reads (line_in t)) header_tests) (bad 1)
