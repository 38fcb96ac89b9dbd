-- What check and least level answer on files that were read, as the code has it: the check of a schedule with 12, and 7, 8, 10, 9 in turn,
-- and the search for a level. No promise rests on this: what the answers mean is promised, and proved of them.
use Rattle.std.specs.Prelude.{ℕ, zero, suc, ◌+◌, ◌*◌, Bool, true, false, cond, ◌&&◌, List, [], ◌∷◌, eqb, ℤ, pos, ◌+ℤ◌, ◌-ℤ◌, ◌*ℤ◌}
use Rattle.std.specs.Int.Signed.{le_z}
use Rattle.rows.specs.Rows.{place_of, Tests}
use Rattle.ints.specs.Parts.{positive, negative}
use Rattle.model.specs.declared.Header.{Header}
use Rattle.model.specs.declared.Line.{Line}
use Rattle.model.specs.declared.Answer.{Answer}
use Rattle.model.specs.declared.Answer.TheVariants.{Done, Level, Refused}
use Rattle.model.specs.declared.Found.{Found}
use Rattle.model.specs.declared.Found.TheVariants as Founds
use Rattle.model.specs.Scales.{header_numbers, headroom, with_top}
use Rattle.model.specs.Numbering.{same_word}
use Rattle.model.specs.Files.{File, said, word_of}
use Rattle.model.specs.Machine.{Step, goes, stops, Machine, finished, stopped, run}
use Rattle.model.specs.Plan.{best_machine}
use Rattle.model.specs.Services.{erase}

-- "A refusal is its number and place, and in a call with several files also which of them, counted from 1 in the order read, 0 with place
-- 0 (12: the circuit)". It is 0 where nothing is refused.
-- file: the one whose line is at fault, 1 for the circuit in the least level, 2 for the schedule in a check
abbrev pub answer_file : ℕ → Answer → ℕ
answer_file file Done = 0
answer_file file (Level l) = 0
answer_file file (Refused n p) = cond (eqb p 0) 0 (cond (eqb n 12) 1 file)

-- tests in the order in which they are asked: a stop with the number of the first that fails
abbrev pub unless : Tests → Step Found ℕ → Step Found ℕ
unless [] more = more
unless ((n, passes) ∷ tests) more = cond passes (unless tests more) (stops n)

-- "10 scale below W. 9 scale above F·level.", with H. "A `rs` or `ms` past zero counts as a negative result."
abbrev pub bound_tests : Header → ℤ → ℤ → Tests
bound_tests h s l = (10, le_z (pos h.waterline) s) ∷ (9, le_z (s +ℤ pos (headroom h)) (pos h.factor *ℤ l)) ∷ []

abbrev pub bounded : Header → (ℕ → ℕ → Found) → ℤ → ℤ → Step Found ℕ
bounded h found s l = unless (bound_tests h s l) (goes (found (positive s) (positive l)))

-- "5 operand of the wrong kind": a well-formed schedule has none.
abbrev pub on_bare : Step Found ℕ → Found → Step Found ℕ
on_bare r Founds.Bare = r
on_bare r (Founds.Encoded s l) = stops 5
on_bare r (Founds.Ciphertext s l) = stops 5

abbrev pub on_ciphertext : (ℕ → ℕ → Step Found ℕ) → Found → Step Found ℕ
on_ciphertext f Founds.Bare = stops 5
on_ciphertext f (Founds.Encoded s l) = stops 5
on_ciphertext f (Founds.Ciphertext s l) = f s l

-- two ciphertexts, or one and an encoded constant, in either place
abbrev pub on_pair : (ℕ → ℕ → ℕ → ℕ → Step Found ℕ) → Found → Found → Step Found ℕ
on_pair f Founds.Bare y = stops 5
on_pair f (Founds.Encoded s l) y = on_ciphertext (f s l) y
on_pair f (Founds.Ciphertext s l) Founds.Bare = stops 5
on_pair f (Founds.Ciphertext s l) (Founds.Encoded s' l') = f s l s' l'
on_pair f (Founds.Ciphertext s l) (Founds.Ciphertext s' l') = f s l s' l'

-- "7 levels differ. 8 scales differ in `add`."
abbrev pub sum : Header → ℕ → ℕ → ℕ → ℕ → Step Found ℕ
sum h s l s' l' = unless ((7, eqb l l') ∷ (8, eqb s s') ∷ []) (bounded h Founds.Ciphertext (pos s) (pos l))

abbrev pub product : Header → ℕ → ℕ → ℕ → ℕ → Step Found ℕ
product h s l s' l' = unless ((7, eqb l l') ∷ []) (bounded h Founds.Ciphertext (pos (s + s')) (pos l))

-- "per line 7, 8, 10, 9"
abbrev pub check_machine : Header → Machine Found ℕ
check_machine h =
    record {
      absent = 4;
      input = λ k. bounded h Founds.Ciphertext (pos h.waterline) (pos h.top);
      constant = λ k. goes Founds.Bare;
      neg = λ x. on_ciphertext (λ s l. bounded h Founds.Ciphertext (pos s) (pos l)) x;
      rot = λ x t. on_ciphertext (λ s l. bounded h Founds.Ciphertext (pos s) (pos l)) x;
      add = λ x y. on_pair (sum h) x y;
      mul = λ x y. on_pair (product h) x y;
      out = λ x. on_ciphertext (λ s l. bounded h Founds.Ciphertext (pos s) (pos l)) x;
      enc = λ x s e. on_bare (bounded h Founds.Encoded (pos s) (pos e)) x;
      rs = λ x c. on_ciphertext (λ s l. bounded h Founds.Ciphertext (pos s -ℤ pos (h.factor * c)) (pos l -ℤ pos c)) x;
      ms = λ x c. on_ciphertext (λ s l. bounded h Founds.Ciphertext (pos s) (pos l -ℤ pos c)) x;
      us = λ x b. on_ciphertext (λ s l. bounded h Founds.Ciphertext (pos (s + b)) (pos l)) x;
    }

-- The first line that breaks a rule, and which.
abbrev pub rules_answer : Header → List Line → Answer
rules_answer h schedule =
    elim (run (check_machine h) schedule) [ finished found ↦ Done | stopped i n ↦ Refused n (place_of i) ]

-- the same numbers
abbrev pub same_numbers : List ℤ → List ℤ → Bool
same_numbers [] [] = true
same_numbers [] (n ∷ ns) = false
same_numbers (m ∷ ms) [] = false
same_numbers (m ∷ ms) (n ∷ ns) = eqb (positive m) (positive n) && (eqb (negative m) (negative n) && same_numbers ms ns)

-- the same word and the same numbers in its fields
abbrev pub same_line : Line → Line → Bool
same_line x y = same_word (word_of x) (word_of y) && same_numbers (said x).numbers (said y).numbers

abbrev pub same_header : Header → Header → Bool
same_header h k = same_numbers (header_numbers h) (header_numbers k)

-- "12 erases to another circuit; place of the first circuit line that differs, or one past the shorter file." n: the value number of
-- the first lines here.
abbrev pub compared : ℕ → List Line → List Line → Answer → Answer
compared n [] [] otherwise = otherwise
compared n [] (y ∷ ys) otherwise = Refused 12 (place_of n)
compared n (x ∷ xs) [] otherwise = Refused 12 (place_of n)
compared n (x ∷ xs) (y ∷ ys) otherwise = cond (same_line x y) (compared (suc n) xs ys otherwise) (Refused 12 (place_of n))

-- "or 12, then per line 7, 8, 10, 9". The header is the first line of both.
abbrev pub check : File → File → Answer
check circuit schedule =
    cond (same_header circuit.header schedule.header)
    (compared 0 circuit.lines (erase schedule.lines) (rules_answer schedule.header schedule.lines))
    (Refused 12 1)

-- "trying L from 1 upward to 60 and stopping at the first that fits": the levels from l on, of which `left` are left; `last` is the refusal
-- at the level before.
abbrev pub try_levels : Header → List Line → ℕ → ℕ → Answer → Answer
try_levels h lines zero l last = last
try_levels h lines (suc left) l last =
    elim (run (best_machine (with_top h l)) lines) [
      | finished best ↦ Level l
      | stopped i n ↦ try_levels h lines left (suc l) (Refused n (place_of i))
    ]

-- "the header's L is then only tested for its range"; where no level fits, the refusal is that of L = 60. The answer before the first level
-- is never given.
abbrev pub least_level : File → Answer
least_level circuit = try_levels circuit.header circuit.lines 60 1 Done
