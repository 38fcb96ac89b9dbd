-- How long the lines of a circuit are: 27 bytes if of the form, 16 if good; and its header: 55 and 19. Assumes nothing.
use Rattle.std.specs.Prelude as Std
use Rattle.std.specs.Prelude.{Some, None}
use Prim.Native.Nat.{ℕ, ◌+◌, ◌*◌, ◌≤◌}
use native.Mathlib.Omega.{arith}
use mathlib.Core.Path.{◌≡◌, refl, sym, ap, ◌∙◌, subst}
use mathlib.Core.Bool.{Bool, true, false, cond, not, ◌&&◌, ◌||◌}
use mathlib.Core.List.{List}
use mathlib.Core.Option.{Option, none, some}
use borrow.Author.Tests.{lt-leb}
use lib.Dec.{T, leb, leb→le, nleb→lt}
use lib.IntN.{ℤ}
use lib.ListN.{length}
use Rattle.fields.specs.Pieces.{Bytes}
use Rattle.fields.specs.Numbers.{decimal_in}
use Rattle.rows.specs.Forms.{said_text, titled, either, worded}
use Rattle.rows.specs.Rows.{Judgement, bad, formed, Format, read_header, read_line}
use Rattle.rows.proofs.FieldLaws.{Fields, Bounded, all_small}
use Rattle.rows.proofs.FormLaws.{titled_back, either_back, worded_back, made_back}
use Rattle.rows.proofs.LengthLaws.{widths, said_width}
use Rattle.model.specs.declared.Grammar.TheVariants.{Circuit}
use Rattle.model.specs.declared.Header.{Header}
use Rattle.model.specs.declared.Line.{Line}
use Rattle.model.specs.declared.Word.{Word}
use Rattle.model.specs.Scales.{three_fields, header_fields, header_numbers}
use Rattle.model.specs.Words.{entry}
use Rattle.model.specs.Files.{said, line_of, word_of, row_of, is_word, line_tests}
use Rattle.model.proofs.Tests.{HeaderFacts}
use Rattle.model.proofs.EveryWord.{every_word_lem}
use Rattle.model.proofs.Formed.{LineFacts}
use Rattle.text.specs.Files.{header_word, header_form, header_of, vocabulary, line_form, kept_count, begins_kept, too_many, circuit_context, format}
use Rattle.text.proofs.WordLaws.{word_of_lem, said_line}
use Rattle.text.proofs.FormLaws.{fields_with, header_bounded, line_bounded}
use Rattle.text.proofs.FileLaws.{kept_most}

abbrev pub circuits : Format Header Line
circuits = format circuit_context

-- ---- a line of the form: a word and fields of at most 11 bytes
word_most : {x : Line} (p : Bytes) → line_form.reads p ≡ some x → length p ≤ length (row_of x).bytes + 12 * length (row_of x).fields
word_most p e =
    made_back (λ s. line_of s.word s.numbers) said (worded vocabulary) p e (λ x. length p ≤ length (row_of x).bytes + 12 * length (row_of x).fields)
    (λ s q.
    let b = worded_back vocabulary p q in
    subst (λ (w : Word). length p ≤ length (entry w).bytes + 12 * length (entry w).fields) (ap (λ s. s.word) (sym (said_line s.word b.held))) b.few)

-- in a circuit the number of lines alone says that there are too many
circuit_many : (done : List Line) (p : Bytes) → too_many circuit_context done p ≡ leb 256 (length done)
circuit_many done p = go (leb 256 (length done)) refl
  where
    go : (b : Bool) → leb 256 (length done) ≡ b → b || (leb 256 (kept_count done) && begins_kept p) ≡ b
    go true e = refl
    go false e =
        let few = nleb→lt 256 (length done) (subst (λ (b : Bool). T (not b)) (sym e) tt) in
        let low = kept_most done in
        ap (λ (b : Bool). b && begins_kept p) (lt-leb 256 (kept_count done) (omega arith))

-- what a line of the form that is too long, or that is not closed, is refused with
abbrev pub refused_with : List Line → ℕ
refused_with done = cond (leb 256 (length done)) 3 1

pub unclosed_number : (done : List Line) (p : Bytes) → cond (too_many circuit_context done p) 3 1 ≡ refused_with done
unclosed_number done p = ap (λ (b : Bool). cond b 3 1) (circuit_many done p)

pub long_line : (h : Header) (done : List Line) (p : Bytes) → 28 ≤ length p → read_line circuits h done p ≡ bad (refused_with done)
unfolding read_line
long_line h done p long =
    (λ i. cond (circuit_many done p i) (bad 3) (not_formed (line_form.reads p) refl i)) ∙ go (leb 256 (length done))
  where
    go : (b : Bool) → ◌≡◌ {A = Judgement Line} (cond b (bad 3) (bad 1)) (bad (cond b 3 1))
    go true = refl
    go false = refl

    not_word : (x : Line) (more : Judgement Line) → line_form.reads p ≡ some x → (b : Bool) → is_word Circuit x ≡ b → cond b more (bad 1) ≡ bad 1
    not_word x more e false q = refl
    not_word x more e true q =
        let few = leb→le (length (row_of x).bytes + 12 * length (row_of x).fields) 27
        (word_of_lem Circuit (λ w. leb (length (entry w).bytes + 12 * length (entry w).fields) 27) tt (word_of x) (subst T (sym q) tt)) in
        let most = word_most p e in
        absurd (omega arith)

    not_formed : (o : Option Line) → line_form.reads p ≡ o → formed o (line_tests Circuit h done) ≡ bad 1
    not_formed none e = refl
    not_formed (some x) e = not_word x _ e (is_word Circuit x) refl

-- ---- a good line
line_width : (h : Header) → HeaderFacts h → (before : List Line) → length before ≤ 255 → (x : Line) → LineFacts Circuit h before x
    → length (line_form.text x) ≤ length (row_of x).bytes + widths 60 255 (row_of x).fields
line_width h facts before few x f =
    said_width 60 255 (row_of x).bytes (every_word_lem (λ w. all_small 60 255 (entry w).fields) tt (word_of x))
    (line_bounded h facts before x f.range f.usable 255 few)

pub good_length : (h : Header) → HeaderFacts h → (before : List Line) → length before ≤ 255 → (x : Line) → LineFacts Circuit h before x → length (line_form.text x) ≤ 16
unfolding decimal_in
good_length h facts before few x f =
    let most = leb→le (length (row_of x).bytes + widths 60 255 (row_of x).fields) 16
    (word_of_lem Circuit (λ w. leb (length (entry w).bytes + widths 60 255 (entry w).fields) 16) tt (word_of x) f.word) in
    omega (arith, line_width h facts before few x f)

-- ---- the header
pub header_length : (h : Header) → HeaderFacts h → length ((header_form Circuit).text h) ≤ 19
unfolding decimal_in
header_length h f = go h.headroom (header_bounded h f)
  where
    go : (given : Std.Option ℕ) {ns : List ℤ} → Fields (Bounded 0 0) (fields_with given) ns → length (said_text (header_word Circuit) ns) ≤ 19
    go None b = let long = said_width 0 0 (header_word Circuit) tt b in omega arith
    go (Some bits) b = let long = said_width 0 0 (header_word Circuit) tt b in omega arith

pub long_header : (p : Bytes) → 56 ≤ length p → read_header circuits p ≡ bad 1
long_header p long = go ((header_form Circuit).reads p) refl
  where
    go : (o : Option Header) → (header_form Circuit).reads p ≡ o → formed o circuits.header_tests ≡ bad 1
    go none e = refl
    go (some h) e =
        let three = titled (header_word Circuit) three_fields in
        let four = titled (header_word Circuit) header_fields in
        absurd (made_back header_of header_numbers (either three four) p e (λ h. ⊥)
        (λ ns q. either_back three four p q (λ ms. ⊥) (λ ms r. let few = (titled_back (header_word Circuit) three_fields p r).few in omega arith)
        (λ ms r. let few = (titled_back (header_word Circuit) header_fields p r).few in omega arith)))
