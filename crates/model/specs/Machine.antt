-- A machine on a file's lines: the check of the rules, document 01's two machines and the best reserve are each one.
-- "take a file's lines in order, starting with nothing held, and keep what each line holds."
use Rattle.std.specs.Prelude.{ℕ, suc, cond, ◌&&◌, List, [], ◌∷◌, ◌++◌, eqb, length, ℤ}
use Rattle.std.proofs.Math.Option.{none, some}
use Rattle.std.proofs.Math.ListN.{get_elem?}
use Rattle.model.specs.Files.{operands, kind_of, is_ciphertext}
use Rattle.model.specs.declared.Line.{Line}
use Rattle.model.specs.declared.Line.TheVariants.{In, Const, Neg, Rot, Add, Mul, Out, Enc, Rs, Ms, Us, Free}

-- What a line leads to: a value that it then holds, or a stop with a reason.
pub data Step (X E : Type 0) : Type 0 where
  goes : X → Step X E
  stops : E → Step X E

-- What a file leads to: the values that its lines hold, or the line that stopped and why.
pub data Run (X E : Type 0) : Type 0 where
  finished : List X → Run X E
  stopped : ℕ → E → Run X E

-- What a machine does at each word, given what its operands hold; and the reason for stopping where an operand names no earlier line.
pub record Machine (X E : Type 0) : Type 0 where
  pub absent : E
  -- given how many `in` lines stand before this one
  pub input : ℕ → Step X E
  -- given the constant number K
  pub constant : ℕ → Step X E
  pub neg : X → Step X E
  pub rot : X → ℤ → Step X E
  pub add : X → X → Step X E
  pub mul : X → X → Step X E
  pub out : X → Step X E
  pub enc : X → ℕ → ℕ → Step X E
  pub rs : X → ℕ → Step X E
  pub ms : X → ℕ → Step X E
  pub us : X → ℕ → Step X E

-- the `in` lines up to and with this line: no other ciphertext is made from no operand
abbrev pub count_in : Line → ℕ → ℕ
count_in x n = cond (is_ciphertext (kind_of x) && eqb (length (operands x)) 0) (suc n) n

module _ {X E : Type 0} where
  -- the first step's value handed to the second, unless it stops
  abbrev pub and_then : {Y : Type 0} → Step X E → (X → Step Y E) → Step Y E
  and_then (goes x) f = f x
  and_then (stops e) f = stops e

  -- what the line that an operand names holds
  abbrev pub held_by : Machine X E → List X → ℕ → Step X E
  held_by M held a = elim (get_elem? held a) [ none ↦ stops M.absent | some x ↦ goes x ]

  -- one line, where `ins` counts the `in` lines before it and `held` is what the lines before it hold
  abbrev pub step : Machine X E → ℕ → List X → Line → Step X E
  step M ins held In = M.input ins
  step M ins held (Const k) = M.constant k
  step M ins held (Neg a) = and_then (held_by M held a) M.neg
  step M ins held (Rot a t) = and_then (held_by M held a) (λ x. M.rot x t)
  step M ins held (Add a b) = and_then (held_by M held a) (λ x. and_then (held_by M held b) (M.add x))
  step M ins held (Mul a b) = and_then (held_by M held a) (λ x. and_then (held_by M held b) (M.mul x))
  step M ins held (Out a) = and_then (held_by M held a) M.out
  step M ins held (Enc a s e) = and_then (held_by M held a) (λ x. M.enc x s e)
  step M ins held (Rs a c) = and_then (held_by M held a) (λ x. M.rs x c)
  step M ins held (Ms a c) = and_then (held_by M held a) (λ x. M.ms x c)
  step M ins held (Us a b) = and_then (held_by M held a) (λ x. M.us x b)
  step M ins held Free = stops M.absent

  -- the lines xs, after lines that hold `held` and have `ins` inputs
  abbrev pub run_from : Machine X E → ℕ → List X → List Line → Run X E
  run_from M ins held [] = finished held
  run_from M ins held (x ∷ xs) =
      elim (step M ins held x) [ goes v ↦ run_from M (count_in x ins) (held ++ (v ∷ [])) xs | stops e ↦ stopped (length held) e ]

  abbrev pub run : Machine X E → List Line → Run X E
  run M xs = run_from M 0 [] xs
