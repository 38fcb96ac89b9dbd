-- Document 02, Job 4: the price of a schedule, from its lines and their levels under the rules. No definition here uses the plan.
use Rattle.std.specs.Prelude.{ℕ, zero, suc, ◌+◌, ◌-◌, ◌*◌, cond, ◌&&◌, ◌≡◌, List, [], ◌∷◌, map}
use Rattle.model.specs.declared.Header.{Header}
use Rattle.model.specs.declared.Line.{Line}
use Rattle.model.specs.declared.Line.TheVariants.{In, Const, Neg, Rot, Add, Mul, Out, Enc, Rs, Ms, Us, Free}
use Rattle.model.specs.Files.{kind_at, is_ciphertext}
use Rattle.model.specs.Rules.{KeepsRules}

abbrev pub summed : List ℕ → ℕ
summed [] = 0
summed (n ∷ ns) = n + summed ns

-- "Price per level at which an operation starts: `mul` of two ciphertexts 40, `rot` 32, `rs` 6, `mul` with a constant 4, `us` 4, `enc` 2,
-- `add` 1, `neg` 1, `ms` 1; `in`, `const`, `out` nothing." Of a line among these lines.
abbrev pub per_level : List Line → Line → ℕ
per_level lines In = 0
per_level lines (Const k) = 0
per_level lines (Neg a) = 1
per_level lines (Rot a t) = 32
per_level lines (Add a b) = 1
per_level lines (Mul a b) = cond (is_ciphertext (kind_at lines a) && is_ciphertext (kind_at lines b)) 40 4
per_level lines (Out a) = 0
per_level lines (Enc a s e) = 2
per_level lines (Rs a c) = 6
per_level lines (Ms a c) = 1
per_level lines (Us a b) = 4
per_level lines Free = 0

-- level l and those below it, c in all
abbrev pub down_from : ℕ → ℕ → List ℕ
down_from l zero = []
down_from l (suc c) = l ∷ down_from (l - 1) c

-- The levels at which a line's operations start, where each line has a level: "the operand's level, for `enc` … E. Each of the C rescales or
-- modswitches is priced at its own level." By the rules both operands of `add` and `mul` have one level. `in`, `const` and `out` have none.
abbrev pub starts_at : (ℕ → ℕ) → Line → List ℕ
starts_at level In = []
starts_at level (Const k) = []
starts_at level (Neg a) = level a ∷ []
starts_at level (Rot a t) = level a ∷ []
starts_at level (Add a b) = level a ∷ []
starts_at level (Mul a b) = level a ∷ []
starts_at level (Out a) = []
starts_at level (Enc a s e) = e ∷ []
starts_at level (Rs a c) = down_from (level a) c
starts_at level (Ms a c) = down_from (level a) c
starts_at level (Us a b) = level a ∷ []
starts_at level Free = []

-- "Price is that number times the operand's level"
abbrev pub line_price : List Line → (ℕ → ℕ) → Line → ℕ
line_price lines level x = per_level lines x * summed (starts_at level x)

abbrev pub price : List Line → (ℕ → ℕ) → ℕ
price lines level = summed (map (line_price lines level) lines)

-- The price of lines that keep the rules, at whatever levels keep them: for lines of a file that was read these are the same but for the bare
-- constants, which have none. Of lines that break a rule it says nothing.
pub record IsPrice (h : Header) (lines : List Line) (n : ℕ) : Type 0 where
  pub price_is : (keeps : KeepsRules h lines) → n ≡ price lines keeps.level
