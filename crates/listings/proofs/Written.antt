-- The schedule that a listing becomes, line by line: each line stands for what it was found to be, so the schedule passes the check and is well
-- formed. Assumes nothing.
use Prim.Native.Nat.{ℕ, suc, ◌+◌, ◌*◌, ◌-◌, ◌<◌}
use native.Mathlib.Nat.{not-suc-le-zero}
use native.Mathlib.Omega.{arith}
use mathlib.Core.Path.{◌≡◌, refl, sym, ap, ap₂, ◌∙◌, subst}
use mathlib.Core.Bool.{true, ◌||◌}
use mathlib.Core.List.{List, [], ◌∷◌, ◌++◌}
use mathlib.Core.Option.{Option, some}
use lib.Dec.{T}
use lib.IntN.{pos, ◌-ℤ◌}
use lib.ListN.{length, get_or, get_elem?, take, get_or-append}
use lib.Seq.{get_or_at, get_or-take, length-take-le}
use Rattle.rows.specs.Fields.{within}
use Rattle.model.specs.declared.Found.{Found}
use Rattle.model.specs.declared.Found.TheVariants as Founds
use Rattle.model.specs.declared.Grammar.TheVariants.{Schedule}
use Rattle.model.specs.declared.Header.{Header}
use Rattle.model.specs.declared.Kind.{Kind}
use Rattle.model.specs.declared.Kind.TheVariants.{Ciphertext}
use Rattle.model.specs.declared.Line.{Line}
use Rattle.model.specs.declared.Line.TheVariants.{Rs, Us, Free}
use Rattle.model.specs.Answers.{bounded, on_ciphertext, check_machine}
use Rattle.model.specs.Files.{kind_of, kind_at, is_usable, is_ciphertext, is_constant, is_encoded, operands, line_formed, lines_formed, well_formed}
use Rattle.model.specs.Machine.{goes, finished, and_then, step, run}
use Rattle.model.specs.Rules.{Bounds, has_scale}
use Rattle.model.specs.Services.{renumbered}
use Rattle.model.proofs.Tests.{and_first, is_ciphertext_lem, within_passes, header_facts}
use Rattle.model.proofs.Lists.{length_snoc, found_below, found_after, found_last, found_is, All, all_map}
use Rattle.model.proofs.Runs.{or_absent, run_snoc}
use Rattle.model.proofs.Outcomes.{snoc_cases, stepped}
use Rattle.model.proofs.Appended.{formed_snoc}
use Rattle.model.proofs.Bounded.{bounded_goes}
use Rattle.model.proofs.Formed.{Matched, LineFacts, line_passes, usable_below, well_header}
use Rattle.model.proofs.Checked.{left_over, found_kind, scale_of, level_of, Agrees}
use Rattle.model.proofs.KeptLines.{renamed_kind}
use Rattle.model.proofs.Supplies.{on_ciphertext_formed}
use Rattle.listings.specs.Listings.{Listed, line, downscale, turned, as_schedules, as_lines}
use Rattle.listings.specs.Held.{held_line, held_lines, held_machine}
use Rattle.listings.proofs.Falling.{KeepsFalling, FallingRule, as_line, as_length, listed_facts}
use Rattle.listings.proofs.HeldRuns.{held_step, held_line_lem, held_length}
use Rattle.listings.proofs.Renaming.{renamed_step, operands_below, renamed_formed}

-- a ciphertext is its scale and its level
ciphertext_is : (v : Found) (s l : ℕ) → found_kind v ≡ Ciphertext → scale_of v ≡ s → level_of v ≡ l → v ≡ Founds.Ciphertext s l
ciphertext_is Founds.Bare s l k e f = absurd (subst (λ (j : Kind). T (is_constant j)) k tt)
ciphertext_is (Founds.Encoded t m) s l k e f = absurd (subst (λ (j : Kind). T (is_encoded j)) k tt)
ciphertext_is (Founds.Ciphertext t m) s l k e f = ap₂ Founds.Ciphertext e f

-- ---- the lines so far. kinds, values: of the listing's lines.
module _ (h : Header) (kinds : ℕ → Kind) (values : ℕ → Found) where
  -- names: for each line of the listing so far the schedule's line that stands for it; found: what the check finds of the schedule's lines
  pub record Written (names : List ℕ) (lines : List Line) (found : List Found) : Type 0 where
    pub runs : run (check_machine h) lines ≡ finished found
    pub formed : T (lines_formed Schedule h [] lines)
    pub long : length found ≡ length lines
    pub value : (a d : ℕ) → a < length names → get_elem? found (get_or names a d) ≡ some (values a)
    pub kind : (a d : ℕ) → a < length names → kind_at lines (get_or names a d) ≡ kinds a

  pub nothing_written : Written [] [] []
  nothing_written = record { runs = refl; formed = tt; long = refl; value = λ a d b. absurd (not-suc-le-zero b); kind = λ a d b. absurd (not-suc-le-zero b) }

  module _ {names : List ℕ} {lines : List Line} {found : List Found} (w : Written names lines found) where
    -- one line more of the schedule
    pub put : (x : Line) (v : Found) → ((n : ℕ) → step (check_machine h) n found x ≡ goes v) → T (line_formed Schedule h lines x)
        → Written names (lines ++ (x ∷ [])) (found ++ (v ∷ []))
    put x v goes_on fits =
        record {
          runs = run_snoc (check_machine h) lines x w.runs goes_on;
          formed = formed_snoc Schedule h lines x w.formed fits;
          long = length_snoc found v ∙ ap suc w.long ∙ sym (length_snoc lines x);
          value = λ a d b. found_after found (v ∷ []) (get_or names a d) (w.value a d b);
          kind = λ a d b.
              ap kind_of (get_or-append lines (x ∷ []) Free (get_or names a d)
              (subst (λ (n : ℕ). get_or names a d < n) w.long (found_below found (get_or names a d) (w.value a d b))))
              ∙ w.kind a d b;
        }

    -- the schedule's line that stands for the listing's next
    pub named : (n : ℕ) → get_elem? found n ≡ some (values (length names)) → kind_at lines n ≡ kinds (length names) → Written (names ++ (n ∷ [])) lines found
    named n v k =
        record {
          runs = w.runs;
          formed = w.formed;
          long = w.long;
          value = λ a d b. snoc_cases names n d a b (λ m. get_elem? found m ≡ some (values a)) (w.value a d) (λ e. v ∙ ap (λ (i : ℕ). some (values i)) (sym e));
          kind = λ a d b. snoc_cases names n d a b (λ m. kind_at lines m ≡ kinds a) (w.kind a d) (λ e. k ∙ ap kinds (sym e));
        }

-- the last of the lines and of what is found
last_kind : (lines : List Line) (x : Line) (n : ℕ) → length lines ≡ n → kind_at (lines ++ (x ∷ [])) n ≡ kind_of x
last_kind lines x n e = ap kind_of (get_or_at lines x [] Free n e)

last_found : (found : List Found) (v : Found) (n : ℕ) → length found ≡ n → get_elem? (found ++ (v ∷ [])) n ≡ some v
last_found found v n e = ap (get_elem? (found ++ (v ∷ []))) (sym e) ∙ found_last found v

-- ---- one line of the listing. all: what was found of its lines.
module _ (h : Header) (xs : List Listed) (listing : T (well_formed Schedule h (as_lines h xs))) (scale level : ℕ → ℕ) (keeps : KeepsFalling h xs scale level)
    (all : List Found) (e : run (held_machine h) (held_lines h xs) ≡ finished all) (agrees : Matched (Agrees h scale level) (as_lines h xs) all) where
  abbrev pub values : ℕ → Found
  values a = get_or all a Founds.Bare

  abbrev pub kinds : ℕ → Kind
  kinds a = kind_at (as_lines h xs) a

  -- a ciphertext was found with the scale and the level that keep the rules
  found_ciphertext : (a : ℕ) → kinds a ≡ Ciphertext → values a ≡ Founds.Ciphertext (scale a) (level a)
  found_ciphertext a k =
      let o = agrees.named a (subst (λ (j : Kind). T (is_usable j)) (sym k) tt) in
      let t = subst (λ (j : Kind). T (is_ciphertext j || is_encoded j)) (sym k) tt in
      found_is all a Founds.Bare o.there ∙ ciphertext_is o.value (scale a) (level a) (o.fits.kind ∙ k) (o.fits.scale_is t) (o.fits.level_is t)

  module _ {names : List ℕ} {lines : List Line} {found : List Found} (w : Written h kinds values names lines found) (b : length names < length xs) where
    abbrev pub before : List Line
    before = take (length names) (as_lines h xs)

    abbrev pub name : ℕ → ℕ
    name a = get_or names a (length lines)

    before_length : length before ≡ length names
    before_length = length-take-le (length names) (as_lines h xs) (omega (arith, as_length h xs))

    before_kind : (a : ℕ) → a < length names → kind_at before a ≡ kinds a
    before_kind a u = ap kind_of (get_or-take (length names) (as_lines h xs) a Free u)

    module _ (x : Line) (at : get_or xs (length names) (line Free) ≡ line x) where
      facts : LineFacts Schedule h before (turned h x)
      facts = subst (λ (y : Listed). LineFacts Schedule h before (as_schedules h y)) at (listed_facts h xs listing (length names) b)

      below : All (λ a. a < length names) (operands (turned h x))
      below = all_map (λ a p. subst (λ (n : ℕ). a < n) before_length p) (operands_below before (operands (turned h x)) facts.usable)

      goes_on : (n : ℕ) → step (check_machine h) n found (renumbered names (length lines) (turned h x)) ≡ goes (values (length names))
      goes_on n =
          let p = (stepped (held_machine h) (held_lines h xs) e).line (length names) (omega (arith, held_length h xs)) in
          renamed_step h p.held found name p.ins n (turned h x)
          (all_map (λ a u v q. w.value a (length lines) u ∙ ap some (found_is all a Founds.Bare (p.among a v q))) below) (values (length names))
          (held_step h p.ins p.held (turned h x) facts.range
          ∙ ap (step (held_machine h) p.ins p.held) (sym (held_line_lem h xs (length names) ∙ ap (held_line h) at)) ∙ p.steps
          ∙ ap goes (sym (found_is all (length names) Founds.Bare p.there)))

      fits : T (line_formed Schedule h lines (renumbered names (length lines) (turned h x)))
      fits = line_passes Schedule h lines (renumbered names (length lines) (turned h x))
          (renamed_formed before lines name h (turned h x) (all_map (λ a u. w.kind a (length lines) u ∙ sym (before_kind a u)) below) facts)

      pub line_written : Written h kinds values (names ++ (length lines ∷ [])) (lines ++ (renumbered names (length lines) (turned h x) ∷ []))
          (found ++ (values (length names) ∷ []))
      line_written =
          named h kinds values (put h kinds values w (renumbered names (length lines) (turned h x)) (values (length names)) goes_on fits) (length lines)
          (last_found found (values (length names)) (length lines) w.long)
          (last_kind lines (renumbered names (length lines) (turned h x)) (length lines) refl ∙ renamed_kind name (turned h x)
          ∙ sym (ap kind_of (as_line h xs (length names) ∙ ap (as_schedules h) at)))

    -- a `ds` becomes two lines
    module _ (a : ℕ) (at : get_or xs (length names) (line Free) ≡ downscale a) where
      abbrev pub bits : ℕ
      bits = h.waterline + h.factor - scale a

      abbrev pub raising : Line
      raising = Us (name a) bits

      abbrev pub raised : Found
      raised = Founds.Ciphertext (scale a + bits) (level a)

      abbrev pub rescaling : Line
      rescaling = Rs (length lines) 1

      abbrev pub rescaled : Found
      rescaled = Founds.Ciphertext h.waterline (level (length names))

      rule : FallingRule h scale level (length names) (downscale a)
      rule = subst (FallingRule h scale level (length names)) at (keeps.rules (length names) b)

      ds_facts : LineFacts Schedule h before (Rs a 1)
      ds_facts = subst (λ (y : Listed). LineFacts Schedule h before (as_schedules h y)) at (listed_facts h xs listing (length names) b)

      operand_below : a < length names
      operand_below = subst (λ (n : ℕ). a < n) before_length (usable_below before a (and_first (is_usable (kind_at before a)) true ds_facts.usable))

      operand_kind : kinds a ≡ Ciphertext
      operand_kind = sym (before_kind a operand_below) ∙ is_ciphertext_lem (kind_at before a) ds_facts.kinds

      own_kind : kinds (length names) ≡ Ciphertext
      own_kind = ap kind_of (as_line h xs (length names) ∙ ap (as_schedules h) at)

      sum_is : scale a + bits ≡ h.waterline + h.factor
      sum_is = omega (arith, rule.0)

      own_bounds : Bounds h h.waterline (level (length names))
      own_bounds =
          subst (λ (s : ℕ). Bounds h s (level (length names))) rule.2
          (keeps.bounds (length names) b (subst (λ (y : Listed). T (has_scale (as_schedules h y))) (sym at) tt))

      raises : (n : ℕ) → step (check_machine h) n found raising ≡ goes raised
      raises n =
          ap (λ (o : Option Found). and_then (or_absent {E = ℕ} 4 o) (on_ciphertext (λ s l. bounded h Founds.Ciphertext (pos (s + bits)) (pos l))))
          (w.value a (length lines) operand_below ∙ ap some (found_ciphertext a operand_kind))
          ∙ bounded_goes h Founds.Ciphertext (scale a + bits) (level a) (subst (λ (s : ℕ). Bounds h s (level a)) (sym sum_is) rule.1)

      raising_fits : T (line_formed Schedule h lines raising)
      raising_fits =
          let H = header_facts h (well_header Schedule h (as_lines h xs) listing) in
          on_ciphertext_formed (within 1 3600 bits) (kind_at lines (name a))
          (within_passes 1 3600 bits (record { least = omega (arith, rule.0); most = omega (arith, H.waterline.most, H.factor.most) }))
          (w.kind a (length lines) operand_below ∙ operand_kind)

      rescales : (n : ℕ) → step (check_machine h) n (found ++ (raised ∷ [])) rescaling ≡ goes rescaled
      rescales n =
          ap (λ (o : Option Found). and_then (or_absent {E = ℕ} 4 o) (on_ciphertext (λ s l. bounded h Founds.Ciphertext (pos s -ℤ pos (h.factor * 1)) (pos l -ℤ pos 1))))
          (last_found found raised (length lines) w.long)
          ∙ ap₂ (bounded h Founds.Ciphertext) (left_over (scale a + bits) (h.factor * 1) h.waterline (omega (arith, sum_is)))
          (left_over (level a) 1 (level (length names)) rule.3)
          ∙ bounded_goes h Founds.Ciphertext h.waterline (level (length names)) own_bounds

      rescaling_fits : T (line_formed Schedule h (lines ++ (raising ∷ [])) rescaling)
      rescaling_fits = on_ciphertext_formed true (kind_at (lines ++ (raising ∷ [])) (length lines)) tt (last_kind lines raising (length lines) refl)

      pub downscale_written : Written h kinds values (names ++ (suc (length lines) ∷ [])) (lines ++ (raising ∷ []) ++ (rescaling ∷ []))
          (found ++ (raised ∷ []) ++ (rescaled ∷ []))
      downscale_written =
          named h kinds values (put h kinds values (put h kinds values w raising raised raises raising_fits) rescaling rescaled rescales rescaling_fits) (suc (length lines))
          (last_found (found ++ (raised ∷ [])) rescaled (suc (length lines)) (length_snoc found raised ∙ ap suc w.long)
          ∙ ap some (sym (found_ciphertext (length names) own_kind ∙ ap (λ (s : ℕ). Founds.Ciphertext s (level (length names))) rule.2)))
          (last_kind (lines ++ (raising ∷ [])) rescaling (suc (length lines)) (length_snoc lines raising) ∙ sym own_kind)
