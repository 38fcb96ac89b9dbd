-- Lawful forms: lines without a word, lines that begin with one word, or with one of several, and the same lines as another type. Assumes nothing.
use Prim.Native.Nat.{ℕ, ◌+◌, ◌*◌, ◌<◌, ◌≤◌}
use native.Mathlib.Omega.{arith}
use mathlib.Core.Path.{◌≡◌, refl, sym, ap, ◌∙◌, subst}
use mathlib.Core.Bool.{Bool, true, cond, ◌&&◌}
use mathlib.Core.List.{List, [], ◌∷◌, map}
use mathlib.Core.Option
use mathlib.Core.Option.{Option, none, some}
use lib.Dec.{T, leb, leb→le}
use lib.IntN.{ℤ}
use lib.ListN.{length, length-map}
use Rattle.fields.specs.Pieces.{Bytes, tab, line_feed, split, join, same_bytes}
use Rattle.fields.specs.Numbers.{amount_text}
use Rattle.fields.proofs.Each as E
use Rattle.fields.proofs.Each.{Each}
use Rattle.fields.proofs.PieceLaws.{Without, split_join, join_split, join_without, same_bytes_lem, bytes_same}
use Rattle.fields.proofs.DigitLaws.{some_is, none_some}
use Rattle.rows.specs.Fields.{Holds, read_fields}
use Rattle.rows.specs.Wordless.{wordless}
use Rattle.rows.specs.Forms.{Form, said_text, after_word, titled, or_else, either, Vocabulary, Said, named, saying, read_said, worded, made}
use Rattle.rows.proofs.Tests.{and_first, and_second, cond_cases, cond_true}
use Rattle.rows.proofs.FieldLaws.{Held, Fields, Short, fields_written_read, fields_read_written, fields_fewer, fields_length, numbers_without}
use Rattle.rows.proofs.LengthLaws.{fields_most}

-- A lawful form: what is read is written so, on one line. That what is written is read back asks its numbers to be short.
pub record LawfulForm {A : Type 0} (form : Form A) : Type 0 where
  pub written : (p : Bytes) (x : A) → form.reads p ≡ some x → form.text x ≡ p
  pub closed : (x : A) → Without line_feed (form.text x)

-- no byte of a word is below `-`, so none is a tab or a line feed: a test that computes, and what it says
abbrev pub letters : Bytes → Bool
letters [] = true
letters (b ∷ bs) = leb 45 b && letters bs

abbrev pub Letters : Bytes → Type 0
Letters word = (x : ℕ) → x < 45 → Without x word

pub letters_are : (word : Bytes) → T (letters word) → Letters word
letters_are [] t x low = E.none
letters_are (b ∷ bs) t x low =
    let high = leb→le 45 b (and_first (leb 45 b) (letters bs) t) in
    let other : b ≡ x → ⊥ = λ e. omega arith in
    E.one other (letters_are bs (and_second (leb 45 b) (letters bs) t) x low)

-- ---- a word and the numbers after it, as bytes
module _ (word : Bytes) (are : Letters word) (ns : List ℤ) where
  said_without : (x : ℕ) → x < 45 → Each (Without x) (word ∷ map amount_text ns)
  said_without x low = E.one (are x low) (numbers_without x low ns)

  said_closed : Without line_feed (said_text word ns)
  said_closed = join_without (omega arith) (said_without line_feed (omega arith))

  pub said_fields : split tab (said_text word ns) ≡ word ∷ map amount_text ns
  said_fields = split_join tab (omega arith) (said_without tab (omega arith))

pub record SaidBack (word : Bytes) (fs : List Holds) (p : Bytes) (ns : List ℤ) : Type 0 where
  pub held : Fields Held fs ns
  pub few : length p ≤ length word + 12 * length fs
  pub written : said_text word ns ≡ p

said_back : (word : Bytes) (fs : List Holds) (p field : Bytes) (fields : List Bytes) {ns : List ℤ} → split tab p ≡ field ∷ fields → word ≡ field
    → read_fields fs fields ≡ some ns → SaidBack word fs p ns
said_back word fs p field fields {ns} cut same e =
    let b = fields_read_written fs fields e in
    let whole = ap length (join_split tab p) in
    let most = fields_most 11 field b.few in
    let joined = ap (λ (ps : List Bytes). length (join tab ps)) cut in
    let bytes = ap length same in
    let count = ap length b.written in
    let numbers = length-map ns amount_text in
    let described = fields_length b.held in
    record { held = b.held; few = omega arith; written = ap (join tab) ((λ i. same i ∷ b.written i) ∙ sym cut) ∙ join_split tab p }

-- ---- lines without a word
module _ (fs : List Holds) where
  pub wordless_law : LawfulForm (wordless fs)
  wordless_law =
      record {
        written = λ p ns e. ap (join tab) (fields_read_written fs (split tab p) e).written ∙ join_split tab p;
        closed = λ ns. join_without (omega arith) (numbers_without line_feed (omega arith) ns);
      }

  pub wordless_forth : {ns : List ℤ} → 1 ≤ length fs → Fields Held fs ns → Each Short ns → (wordless fs).reads ((wordless fs).text ns) ≡ some ns
  wordless_forth {ns} some-field held short =
      let count = fields_length held in
      let numbers = length-map ns amount_text in
      ap (read_fields fs) (split_join tab (omega arith) (numbers_without tab (omega arith) ns)) ∙ fields_written_read held short

-- ---- lines that begin with one word
module _ (word : Bytes) (fs : List Holds) where
  pub titled_back : (p : Bytes) {ns : List ℤ} → (titled word fs).reads p ≡ some ns → SaidBack word fs p ns
  titled_back p {ns} e = go (split tab p) refl e
    where
      go : (fields : List Bytes) → split tab p ≡ fields → after_word word fs fields ≡ some ns → SaidBack word fs p ns
      go [] q v = none_some v
      go (field ∷ fields) q v =
          cond_cases (λ o. o ≡ some ns → SaidBack word fs p ns) (same_bytes field word) (read_fields fs fields) none
          (λ t u. said_back word fs p field fields q (sym (same_bytes_lem field word t)) u) (λ t u. none_some u) v

  module _ (are : Letters word) where
    pub titled_law : LawfulForm (titled word fs)
    titled_law = record { written = λ p ns e. (titled_back p e).written; closed = said_closed word are }

    pub titled_forth : {ns : List ℤ} → Fields Held fs ns → Each Short ns → (titled word fs).reads ((titled word fs).text ns) ≡ some ns
    titled_forth {ns} held short =
        ap (after_word word fs) (said_fields word are ns) ∙ cond_true (same_bytes word word) (read_fields fs (map amount_text ns)) none (bytes_same word)
        ∙ fields_written_read held short

    -- fewer fields than it has numbers
    pub titled_fewer : (ns : List ℤ) → length fs < length ns → (titled word fs).reads (said_text word ns) ≡ none
    titled_fewer ns fewer =
        let numbers = length-map ns amount_text in
        ap (after_word word fs) (said_fields word are ns) ∙ cond_true (same_bytes word word) (read_fields fs (map amount_text ns)) none (bytes_same word)
        ∙ fields_fewer fs (map amount_text ns) (omega arith)

-- ---- lines of one form, or else of another
module _ {A : Type 0} (one other : Form A) where
  pub either_back : (p : Bytes) {x : A} → (either one other).reads p ≡ some x → (P : A → Type 0) → ((y : A) → one.reads p ≡ some y → P y)
      → ((y : A) → other.reads p ≡ some y → P y) → P x
  either_back p {x} e P first second = go (one.reads p) refl e
    where
      go : (o : Option A) → one.reads p ≡ o → or_else o (other.reads p) ≡ some x → P x
      go none q v = second x v
      go (some y) q v = subst P (some_is v) (first y q)

  pub either_law : ((x : A) → other.text x ≡ one.text x) → LawfulForm one → LawfulForm other → LawfulForm (either one other)
  either_law same first second =
      record {
        written = λ p x e. either_back p e (λ y. one.text y ≡ p) (first.written p) (λ y q. sym (same y) ∙ second.written p y q);
        closed = first.closed;
      }

  pub either_first : (p : Bytes) {x : A} → one.reads p ≡ some x → (either one other).reads p ≡ some x
  either_first p e = ap (λ (o : Option A). or_else o (other.reads p)) e

  pub either_second : (p : Bytes) {x : A} → one.reads p ≡ none → other.reads p ≡ some x → (either one other).reads p ≡ some x
  either_second p e q = ap (λ (o : Option A). or_else o (other.reads p)) e ∙ q

-- ---- lines that begin with one of several words
module _ {W : Type 0} (v : Vocabulary W) where
  pub named_is : (ws : List W) (field : Bytes) {w : W} → named v ws field ≡ some w → v.bytes w ≡ field
  unfolding named
  named_is [] field e = none_some e
  named_is (u ∷ ws) field {w} e = go (λ x. named_is ws field {w = x}) e
    where
      go : ((x : W) → named v ws field ≡ some x → v.bytes x ≡ field) → cond (same_bytes field (v.bytes u)) (some u) (named v ws field) ≡ some w
          → v.bytes w ≡ field
      go ih =
          cond_cases (λ o. o ≡ some w → v.bytes w ≡ field) (same_bytes field (v.bytes u)) (some u) (named v ws field)
          (λ t q. ap v.bytes (sym (some_is q)) ∙ sym (same_bytes_lem field (v.bytes u) t)) (λ t q. ih w q)

  -- what the fields after a word are read to, if it is one
  abbrev followed : Option W → List Bytes → Option (Said W)
  followed o fields = elim o [ none ↦ none | some w ↦ Option.map (saying w) (read_fields (v.fields w) fields) ]

  abbrev pub WordedBack : Bytes → Said W → Type 0
  WordedBack p s = SaidBack (v.bytes s.word) (v.fields s.word) p s.numbers

  pub worded_back : (p : Bytes) {s : Said W} → (worded v).reads p ≡ some s → WordedBack p s
  worded_back p {s} e = go (split tab p) refl e
    where
      after : (w : W) (field : Bytes) (fields : List Bytes) → split tab p ≡ field ∷ fields → named v v.words field ≡ some w → (o : Option (List ℤ))
          → read_fields (v.fields w) fields ≡ o → Option.map (saying w) o ≡ some s → WordedBack p s
      after w field fields q n none r u = none_some u
      after w field fields q n (some ns) r u = subst (WordedBack p) (some_is u) (said_back (v.bytes w) (v.fields w) p field fields q (named_is v.words field n) r)

      at_word : (field : Bytes) (fields : List Bytes) → split tab p ≡ field ∷ fields → (o : Option W) → named v v.words field ≡ o → followed o fields ≡ some s
          → WordedBack p s
      at_word field fields q none n u = none_some u
      at_word field fields q (some w) n u = after w field fields q n (read_fields (v.fields w) fields) refl u

      go : (fields : List Bytes) → split tab p ≡ fields → read_said v fields ≡ some s → WordedBack p s
      go [] q u = none_some u
      go (field ∷ fields) q u = at_word field fields q (named v v.words field) refl u

  module _ (are : (w : W) → Letters (v.bytes w)) where
    pub worded_law : LawfulForm (worded v)
    worded_law = record { written = λ p s e. (worded_back p e).written; closed = λ s. said_closed (v.bytes s.word) (are s.word) s.numbers }

    pub worded_forth : (s : Said W) → named v v.words (v.bytes s.word) ≡ some s.word → Fields Held (v.fields s.word) s.numbers
        → Each Short s.numbers → (worded v).reads ((worded v).text s) ≡ some s
    worded_forth s n held short =
        ap (read_said v) (said_fields (v.bytes s.word) (are s.word) s.numbers)
        ∙ ap (λ (o : Option W). followed o (map amount_text s.numbers)) n ∙ ap (Option.map (saying s.word)) (fields_written_read held short)

-- ---- the same lines as another type
module _ {R A : Type 0} (make : R → A) (take : A → R) (form : Form R) where
  pub made_back : (p : Bytes) {x : A} → (made make take form).reads p ≡ some x → (P : A → Type 0) → ((r : R) → form.reads p ≡ some r → P (make r)) → P x
  made_back p {x} e P each = go (form.reads p) refl e
    where
      go : (o : Option R) → form.reads p ≡ o → Option.map make o ≡ some x → P x
      go none q v = none_some v
      go (some r) q v = subst P (some_is v) (each r q)

  pub made_law : ((p : Bytes) (r : R) → form.reads p ≡ some r → take (make r) ≡ r) → LawfulForm form → LawfulForm (made make take form)
  made_law taken law =
      record {
        written = λ p x e. made_back p e (λ y. form.text (take y) ≡ p) (λ r q. ap form.text (taken p r q) ∙ law.written p r q);
        closed = λ x. law.closed (take x);
      }

  pub made_forth : (x : A) → make (take x) ≡ x → form.reads (form.text (take x)) ≡ some (take x) → (made make take form).reads ((made make take form).text x) ≡ some x
  made_forth x is e = ap (Option.map make) e ∙ ap some is
