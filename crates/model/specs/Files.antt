-- Document 01, "The two files": operands, kinds, ranges, and which lists of lines are circuits and schedules. The words stand in Words.
-- A file is its header and the list of its lines; its text is another layer's.
use Rattle.std.specs.Prelude.{ℕ, Bool, true, false, ◌&&◌, ◌||◌, List, [], ◌∷◌, ◌++◌, map, ℤ, pos, get_or}
use Rattle.ints.specs.Parts.{positive}
use Rattle.rows.specs.Fields.{all_in_range}
use Rattle.rows.specs.Forms.{Said, saying}
use Rattle.rows.specs.Rows as Rows
use Rattle.rows.specs.Rows.{Tests}
use Rattle.model.specs.declared.Header.{Header}
use Rattle.model.specs.declared.Line.{Line}
use Rattle.model.specs.declared.Line.TheVariants.{In, Const, Neg, Rot, Add, Mul, Out, Enc, Rs, Ms, Us, Free}
use Rattle.model.specs.declared.Grammar.{Grammar}
use Rattle.model.specs.declared.Grammar.TheVariants.{Circuit, Schedule}
use Rattle.model.specs.declared.Kind.{Kind}
use Rattle.model.specs.declared.Kind.TheVariants.{Ciphertext, Constant, Encoded, Nothing}
use Rattle.model.specs.declared.Word.TheVariants as Words
use Rattle.model.specs.declared.Word.{Word}
use Rattle.model.specs.Scales.{header_in_range}
use Rattle.model.specs.Words.{Entry, Asks, no_operand, a_ciphertext, a_constant, a_pair, entry, has_word, operands_among}

-- "at most 256 lines", "at most 1,792 lines"
abbrev pub limit : Grammar → ℕ
limit Circuit = 256
limit Schedule = 1792

-- A line's word and the numbers in the fields after it.
abbrev pub said : Line → Said Word
said In = saying Words.In []
said (Const k) = saying Words.Const (pos k ∷ [])
said (Neg a) = saying Words.Neg (pos a ∷ [])
said (Rot a t) = saying Words.Rot (pos a ∷ t ∷ [])
said (Add a b) = saying Words.Add (pos a ∷ pos b ∷ [])
said (Mul a b) = saying Words.Mul (pos a ∷ pos b ∷ [])
said (Out a) = saying Words.Out (pos a ∷ [])
said (Enc a s e) = saying Words.Enc (pos a ∷ pos s ∷ pos e ∷ [])
said (Rs a c) = saying Words.Rs (pos a ∷ pos c ∷ [])
said (Ms a c) = saying Words.Ms (pos a ∷ pos c ∷ [])
said (Us a b) = saying Words.Us (pos a ∷ pos b ∷ [])
said Free = saying Words.NoWord []

-- The line of a word and its numbers. A number that is missing is 0, and one that has a sign where there is none is cut off; no reading
-- meets either.
abbrev pub nth : List ℤ → ℕ → ℕ
nth ns i = positive (get_or ns i (pos 0))

abbrev pub line_of : Word → List ℤ → Line
line_of Words.In ns = In
line_of Words.Const ns = Const (nth ns 0)
line_of Words.Neg ns = Neg (nth ns 0)
line_of Words.Rot ns = Rot (nth ns 0) (get_or ns 1 (pos 0))
line_of Words.Add ns = Add (nth ns 0) (nth ns 1)
line_of Words.Mul ns = Mul (nth ns 0) (nth ns 1)
line_of Words.Out ns = Out (nth ns 0)
line_of Words.Enc ns = Enc (nth ns 0) (nth ns 1) (nth ns 2)
line_of Words.Rs ns = Rs (nth ns 0) (nth ns 1)
line_of Words.Ms ns = Ms (nth ns 0) (nth ns 1)
line_of Words.Us ns = Us (nth ns 0) (nth ns 1)
line_of Words.NoWord ns = Free

-- ---- what is read off the word's row
abbrev pub word_of : Line → Word
word_of x = (said x).word

abbrev pub row_of : Line → Entry
row_of x = entry (word_of x)

-- "Circuit: header … then … lines", "Schedule: … those above and …": the word is one of the file's.
abbrev pub is_word : Grammar → Line → Bool
is_word g x = has_word g (word_of x)

-- The value numbers that a line names, in their order.
abbrev pub operands : Line → List ℕ
operands x = operands_among (row_of x).fields (said x).numbers

-- Each number of a line but its operands is in its range.
abbrev pub in_range : Header → Line → Bool
in_range h x = all_in_range h.top (row_of x).fields (said x).numbers

-- What a line can be used as: its word alone decides.
abbrev pub kind_of : Line → Kind
kind_of x = (row_of x).kind

-- ---- kinds
-- The kind of value a among the lines before; past them there is nothing.
abbrev pub kind_at : List Line → ℕ → Kind
kind_at before a = kind_of (get_or before a Free)

abbrev pub is_ciphertext : Kind → Bool
is_ciphertext Ciphertext = true
is_ciphertext Constant = false
is_ciphertext Encoded = false
is_ciphertext Nothing = false

abbrev pub is_constant : Kind → Bool
is_constant Ciphertext = false
is_constant Constant = true
is_constant Encoded = false
is_constant Nothing = false

abbrev pub is_encoded : Kind → Bool
is_encoded Ciphertext = false
is_encoded Constant = false
is_encoded Encoded = true
is_encoded Nothing = false

-- "A and B name earlier lines that are not `out`."
abbrev pub is_usable : Kind → Bool
is_usable k = is_ciphertext k || is_constant k || is_encoded k

abbrev pub every_usable : List Line → List ℕ → Bool
every_usable before [] = true
every_usable before (a ∷ as') = is_usable (kind_at before a) && every_usable before as'

-- "one ciphertext and one constant (in a circuit) or encoded constant (in a schedule)"
abbrev pub is_plaintext : Grammar → Kind → Bool
is_plaintext Circuit k = is_constant k
is_plaintext Schedule k = is_encoded k

-- "`add` and `mul` take two ciphertexts, or one ciphertext and one constant … or encoded constant …, in either place."
abbrev pub is_pair : Grammar → Kind → Kind → Bool
is_pair g j k =
    (is_ciphertext j && (is_ciphertext k || is_plaintext g k)) || (is_plaintext g j && is_ciphertext k)

-- what is asked of the kinds of the first and of the second operand
abbrev pub asks_for : Grammar → Asks → Kind → Kind → Bool
asks_for g no_operand j k = true
asks_for g a_ciphertext j k = is_ciphertext j
asks_for g a_constant j k = is_constant j
asks_for g a_pair j k = is_pair g j k

abbrev pub kinds_fit : Grammar → List Line → Line → Bool
kinds_fit g before x =
    let kinds = map (kind_at before) (operands x) in
    asks_for g (row_of x).asks (get_or kinds 0 Nothing) (get_or kinds 1 Nothing)

-- ---- files
-- One line after the lines before it, "per line … 1, … 11, 4, 5": its word, its ranges, its operands, their kinds.
abbrev pub line_tests : Grammar → Header → List Line → Line → Tests
line_tests g h before x =
    (1, is_word g x) ∷ (11, in_range h x) ∷ (4, every_usable before (operands x)) ∷ (5, kinds_fit g before x) ∷ []

-- every test is passed; after the last one nothing is added
abbrev pub all_pass : Tests → Bool
all_pass [] = true
all_pass ((n, passes) ∷ []) = passes
all_pass ((n, passes) ∷ t ∷ ts) = passes && all_pass (t ∷ ts)

abbrev pub line_formed : Grammar → Header → List Line → Line → Bool
line_formed g h before x = all_pass (line_tests g h before x)

-- The lines of a file of that grammar, after the lines before them. The limit on their number is a condition of its own.
abbrev pub lines_formed : Grammar → Header → List Line → List Line → Bool
lines_formed g h before [] = true
lines_formed g h before (x ∷ xs) = line_formed g h before x && lines_formed g h (before ++ (x ∷ [])) xs

-- The header is in range and the lines are of the grammar.
abbrev pub well_formed : Grammar → Header → List Line → Bool
well_formed g h lines = header_in_range h && lines_formed g h [] lines

-- A file: its header's numbers and its lines.
abbrev pub File : Type 0
File = Rows.File Header Line
