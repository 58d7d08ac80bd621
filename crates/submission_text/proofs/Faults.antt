-- A submission is read by a plan of lines, so its first faulty line is told, and there is one.
use Rattle.std.proofs.Common.{◌≡◌, ℕ, zero, suc, ◌+◌, ◌-◌, ◌↔◌, List, [], ◌∷◌, ◌++◌, pos, Ok, Err, codes, Result, IfErr, sym, refl, ap, ◌∙◌, arith, add-one}
use Rattle.text.specs.declared.refusal.Refusal.{Refusal}
use Rattle.text.specs.Numbers.{natural_of}
use Rattle.text.specs.Lines.{natural_line_of, placed, and_then, closed}
use Rattle.text.proofs.Canonical.{ok_in_span}
use Rattle.text.proofs.Lined.{Plain}
use Rattle.offers.specs.declared.pair.Pair.{Pair}
use Rattle.offers.specs.Curves.{curve, stored}
use Rattle.submission_text.specs.declared.file.Head.{Head}
use Rattle.submission_text.specs.declared.file.SubmissionFile.{SubmissionFile}
use Rattle.submission_text.specs.Read.{priced, pair_of, pair_line_of, pairs_from, curved, file_of, read_of}
use Rattle.submission_text.specs.Faults.{IsAccepted, due_key, FirstFault, OneFault}
use Rattle.submission_text.proofs.Claims.{reads_lines}
use Rattle.submission_text.proofs.Trips.{plain_facility, plain_interval, plain_up, plain_down, plain_pairs, plain_pair}
use Rattle.text.proofs.Plans.{Plan, run, Runs, Sound, Good, Due, then_same, then_joined, first_fault_of, one_fault_of}
use Rattle.text.proofs.Plans.Plan.{done, line}

-- ---- the plan
abbrev pairs_plan : Head → ℕ → ℕ → List Pair → Plan SubmissionFile
pairs_plan h zero room ps = done (file_of h (stored (curve ps)))
pairs_plan h (suc n) room ps =
    line (codes "pair") (pair_of room) (λ p. pairs_plan h n (room - p.kw) (ps ++ (p ∷ [])))

abbrev file_plan : Plan SubmissionFile
file_plan =
    line (codes "facility") (natural_of 1 12) (λ f.
    line (codes "interval") (natural_of 1 48) (λ i.
    line (codes "rampup") (natural_of 1 1000000) (λ u.
    line (codes "rampdown") (natural_of 1 1000000) (λ d.
    line (codes "pairs") (natural_of 0 8) (λ n.
    pairs_plan record { facility = f; interval = i; ramp_up = u; ramp_down = d } n 1000000 [])))))

-- ---- it reads what the definition reads
-- the file of these pairs, if nothing follows them
abbrev filed : Head → ℕ → Result (List Pair × List ℕ) Refusal → Result SubmissionFile Refusal
filed h end r = and_then (curved r) (λ q. closed end q.1 (file_of h q.0))

pairs_run : (h : Head) (n at end room : ℕ) (ps : List Pair) (s : List ℕ) → at + n ≡ end
    → filed h end (pairs_from n at room ps s) ≡ run (pairs_plan h n room ps) at s
pairs_run h zero at end room ps s e =
    let q : end ≡ at = omega arith in ap (λ k. closed k s (file_of h (stored (curve ps)))) q
pairs_run h (suc n) at end room ps s e =
    one_more (placed at (pair_line_of room s))
    (λ x. pairs_run h n (suc at) end (room - x.0.kw) (ps ++ (x.0 ∷ [])) x.1 (omega arith))
  where
    one_more : (r : Result (Pair × List ℕ) Refusal)
        → ((x : Pair × List ℕ) → filed h end (pairs_from n (suc at) (room - x.0.kw) (ps ++ (x.0 ∷ [])) x.1)
        ≡ run (pairs_plan h n (room - x.0.kw) (ps ++ (x.0 ∷ []))) (suc at) x.1)
        → filed h end (and_then r (λ x. pairs_from n (at + 1) (room - x.0.kw) (ps ++ (x.0 ∷ [])) x.1))
        ≡ and_then r (λ x. run (pairs_plan h n (room - x.0.kw) (ps ++ (x.0 ∷ []))) (suc at) x.1)
    one_more (Err d) k = refl
    one_more (Ok x) k =
        ap (λ m. filed h end (pairs_from n m (room - x.0.kw) (ps ++ (x.0 ∷ [])) x.1)) (add-one at) ∙ k x

file_run : (s : List ℕ) → read_of s ≡ run file_plan 1 s
file_run s =
    then_joined (placed 1 (natural_line_of (codes "facility") 1 12 s)) _ _ _ (λ f.
    then_joined (placed 2 (natural_line_of (codes "interval") 1 48 f.1)) _ _ _ (λ i.
    then_joined (placed 3 (natural_line_of (codes "rampup") 1 1000000 i.1)) _ _ _ (λ u.
    then_joined (placed 4 (natural_line_of (codes "rampdown") 1 1000000 u.1)) _ _ _ (λ d.
    let h : Head = record { facility = f.0; interval = i.0; ramp_up = u.0; ramp_down = d.0 } in
    then_same (placed 5 (natural_line_of (codes "pairs") 0 8 d.1)) _ _ (λ n.
    pairs_run h n.0 6 (6 + n.0) 1000000 [] n.1 refl)))))

-- ---- its lines are sound
sound_figure : (key : List ℕ) (low high : ℕ) → Plain key → natural_of low high (codes "1") ≡ Ok 1
    → Sound key (natural_of low high)
sound_figure key low high k e =
    record { plain = k; sample = codes "1"; value = 1; read = e; free = (refl, tt) }

sound_pair : (room : ℕ) → Sound (codes "pair") (pair_of room)
sound_pair room =
    record {
      plain = plain_pair;
      sample = codes "0:0";
      value = record { price = pos 0; kw = 0 };
      read = ap (priced (pos 0)) (ok_in_span 0 room 0 (omega arith) (omega arith));
      free = (refl, (refl, (refl, tt)));
    }

pairs_good : (h : Head) (n room : ℕ) (ps : List Pair) → Good (pairs_plan h n room ps)
pairs_good h zero room ps = tt
pairs_good h (suc n) room ps = (sound_pair room, λ p. pairs_good h n (room - p.kw) (ps ++ (p ∷ [])))

file_good : Good file_plan
file_good = (
  sound_figure (codes "facility") 1 12 plain_facility refl,
  λ f. (
    sound_figure (codes "interval") 1 48 plain_interval refl,
    λ i. (
      sound_figure (codes "rampup") 1 1000000 plain_up refl,
      λ u. (
        sound_figure (codes "rampdown") 1 1000000 plain_down refl,
        λ d. (
          sound_figure (codes "pairs") 0 8 plain_pairs refl,
          λ n.
              let h : Head = record { facility = f; interval = i; ramp_up = u; ramp_down = d } in
              pairs_good h n 1000000 [],
        ),
      ),
    ),
  ),
)

-- its keys are those that are due
pairs_due : (h : Head) (n room : ℕ) (ps : List Pair) (due : ℕ → List ℕ) (s : List ℕ)
    → ((k : ℕ) → codes "pair" ≡ due k) → Due (pairs_plan h n room ps) due s
pairs_due h zero room ps due s e = tt
pairs_due h (suc n) room ps due s e =
    (e 0, λ p rest read. pairs_due h n (room - p.kw) (ps ++ (p ∷ [])) (λ k. due (suc k)) rest (λ k. e (suc k)))

file_due : (s : List ℕ) → Due file_plan due_key s
file_due s =
    let later = λ (k : ℕ). due_key (suc (suc (suc (suc (suc k))))) in (
      refl,
      λ f s₁ e₁. (
        refl,
        λ i s₂ e₂. (
          refl,
          λ u s₃ e₃. (
            refl,
            λ d s₄ e₄. (
              refl,
              λ n s₅ e₅.
                  let h : Head = record { facility = f; interval = i; ramp_up = u; ramp_down = d } in
                  pairs_due h n 1000000 [] later s₅ (λ k. refl),
            ),
          ),
        ),
      ),
    )

pub first_fault : (s : List ℕ) (r : Refusal) → read_of s ≡ Err r → FirstFault s r
first_fault s r e = first_fault_of file_plan IsAccepted due_key file_good read s (file_due s) r (sym (file_run s) ∙ e)
  where
    read : (t : List ℕ) → Runs file_plan 1 t ↔ IsAccepted t
    read t = (
      (λ z. (z.0, (reads_lines t z.0).0 (file_run t ∙ z.1))),
      (λ z. (z.0, sym (file_run t) ∙ (reads_lines t z.0).1 z.1)),
    )

pub first_faults : (s : List ℕ) (r : Result SubmissionFile Refusal) → r ≡ read_of s
    → IfErr r (λ d. FirstFault s d)
first_faults s (Ok x) e = tt
first_faults s (Err d) e = first_fault s d (sym e)

pub one_fault : OneFault
one_fault s q r g h = one_fault_of IsAccepted due_key s q r g h
