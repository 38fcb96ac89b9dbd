-- What code and proofs use: how a table holds a listing, its rules as the code has them, and its conversion from there. No promise rests on
-- this.
use Rattle.std.specs.Prelude.{ℕ, suc, ◌+◌, ◌-◌, Bool, cond, ◌&&◌, List, [], ◌∷◌, ◌++◌, map, eqb, ltb, pos, ◌+ℤ◌, ◌*ℤ◌, get_or}
use Rattle.std.specs.Int.Signed.{le_z}
use Rattle.rows.specs.Rows.{place_of, Reading, read, refused}
use Rattle.model.specs.declared.Answer.{Answer}
use Rattle.model.specs.declared.Answer.TheVariants.{Done, Refused}
use Rattle.model.specs.declared.Found.{Found}
use Rattle.model.specs.declared.Found.TheVariants as Founds
use Rattle.model.specs.declared.Header.{Header}
use Rattle.model.specs.declared.Line.{Line}
use Rattle.model.specs.declared.Line.TheVariants.{Rs, Us}
use Rattle.model.specs.declared.Word.TheVariants as Words
use Rattle.model.specs.Scales.{headroom}
use Rattle.model.specs.Numbering.{same_word}
use Rattle.model.specs.Files.{File, nth, said, word_of, operands}
use Rattle.model.specs.Machine.{Step, goes, Machine, finished, stopped, run}
use Rattle.model.specs.Services.{renumbered}
use Rattle.model.specs.Answers.{unless, on_ciphertext, check_machine}
use Rattle.text.specs.Tables.{Table}
use Rattle.listings.specs.Listings.{Listed, line, downscale, Listing, turned}

-- ---- lines
-- A table holds a listing's line as a schedule's, its level counted down; and `ds A` as a rescale by 0 levels, which no text says.
abbrev pub held_line : Header → Listed → Line
held_line h (line x) = turned h x
held_line h (downscale a) = Rs a 0

abbrev pub held_lines : Header → List Listed → List Line
held_lines h xs = map (held_line h) xs

abbrev pub held_file : Listing → File
held_file l = record { header = l.header; lines = held_lines l.header l.lines }

abbrev pub held_reading : Reading Listing → Reading File
held_reading (read l) = read (held_file l)
held_reading (refused n place) = refused n place

-- whether a line that is held is a `ds`
abbrev pub is_downscale : Line → Bool
is_downscale x = same_word (word_of x) Words.Rs && eqb (nth (said x).numbers 1) 0

-- the value that it names
abbrev pub named : Line → ℕ
named x = get_or (operands x) 0 0

-- the same line with a count that a schedule's line can have, and the table of such lines
abbrev pub counted_line : Line → Line
counted_line x = cond (is_downscale x) (Rs (named x) 1) x

abbrev pub counted_table : Table → Table
counted_table t = record { header = t.header; lines = map counted_line t.lines; count = t.count }

-- ---- the rules
-- 14, then 9 with H; then W at one level less
abbrev pub downscaled : Header → ℕ → ℕ → Step Found ℕ
downscaled h s l =
    let raised = h.waterline + h.factor in
    unless ((14, ltb s raised) ∷ (9, le_z (pos raised +ℤ pos (headroom h)) (pos h.factor *ℤ pos l)) ∷ [])
    (goes (Founds.Ciphertext h.waterline (l - 1)))

-- the check, with a rescale by 0 as `ds`
abbrev pub held_machine : Header → Machine Found ℕ
held_machine h =
    record {
      absent = (check_machine h).absent;
      input = (check_machine h).input;
      constant = (check_machine h).constant;
      neg = (check_machine h).neg;
      rot = (check_machine h).rot;
      add = (check_machine h).add;
      mul = (check_machine h).mul;
      out = (check_machine h).out;
      enc = (check_machine h).enc;
      rs = λ x c. cond (eqb c 0) (on_ciphertext (downscaled h) x) ((check_machine h).rs x c);
      ms = (check_machine h).ms;
      us = (check_machine h).us;
    }

abbrev pub held_answer : Header → List Line → Answer
held_answer h lines =
    elim (run (held_machine h) lines) [ finished found ↦ Done | stopped i n ↦ Refused n (place_of i) ]

-- the scale that the check finds of line i
abbrev pub scale_of : Found → ℕ
scale_of Founds.Bare = 0
scale_of (Founds.Encoded s l) = s
scale_of (Founds.Ciphertext s l) = s

abbrev pub found_scales : Header → List Line → ℕ → ℕ
found_scales h lines i =
    elim (run (held_machine h) lines) [ finished found ↦ scale_of (get_or found i Founds.Bare) | stopped j n ↦ 0 ]

-- ---- conversion
abbrev pub convert_held_from : Header → (ℕ → ℕ) → List ℕ → ℕ → List Line → List Line
convert_held_from h scale names count [] = []
convert_held_from h scale names count (x ∷ xs) =
    cond (is_downscale x)
    (Us (get_or names (named x) count) (h.waterline + h.factor - scale (named x))
    ∷ Rs count 1 ∷ convert_held_from h scale (names ++ (suc count ∷ [])) (suc (suc count)) xs)
    (renumbered names count x ∷ convert_held_from h scale (names ++ (count ∷ [])) (suc count) xs)

abbrev pub convert_held : Header → (ℕ → ℕ) → List Line → List Line
convert_held h scale lines = convert_held_from h scale [] 0 lines
