-- A line more of the journal, and what a page then shows.
use Rattle.std.proofs.Common.{◌≡◌, ℕ, ◌+◌, ◌-◌, ◌*◌, ◌<◌, ◌≤◌, ◌≢◌, Bool, eqb, List, [], ◌∷◌, ◌++◌, map, length, get_or, take, drop, ℤ, pos, sym, refl, ap, ◌∙◌, subst, ◌⊎◌, ⊎_elim, arith}
use Rattle.std.specs.List.{filter}
use Rattle.std.proofs.Math.ListN.{drop_of_length-le}
use Rattle.std.proofs.Math.Seq.{drop-nil}
use Rattle.std.proofs.lemmas.List.{drop-append-le, take-append-le, take_all, take_more, length_push, length-take, length-drop, map-append, append-nil}
use Rattle.std.proofs.lemmas.List.Elements.{filter-append}
use Rattle.std.proofs.lemmas.Bool.{cond-true, cond-false, eq-eqb, ne_eqb}
use Rattle.journal.specs.declared.line.Line.{Line}
use Rattle.statement.specs.Pages.{postings_of, postings_on}

-- ---- a line behind the last
module _ (a : ℕ) (ls : List Line) (l : Line) where
  abbrev here : Line → Bool
  here k = eqb k.account a

  joined : postings_of a (ls ++ (l ∷ [])) ≡ postings_of a ls ++ map (λ l. l.cents) (filter here (l ∷ []))
  joined =
      ap (map (λ l. l.cents)) (filter-append here ls (l ∷ []))
      ∙ map-append (λ l. l.cents) (filter here ls) (filter here (l ∷ []))

  posted_here : l.account ≡ a → postings_of a (ls ++ (l ∷ [])) ≡ postings_of a ls ++ (l.cents ∷ [])
  posted_here e =
      joined ∙ ap (λ xs. postings_of a ls ++ map (λ l. l.cents) xs) (cond-true (here l) (l ∷ []) [] (eq-eqb l.account a e))

  posted_there : l.account ≢ a → postings_of a (ls ++ (l ∷ [])) ≡ postings_of a ls
  posted_there e =
      joined ∙ ap (λ xs. postings_of a ls ++ map (λ l. l.cents) xs) (cond-false (here l) (l ∷ []) [] (ne_eqb l.account a e))
      ∙ append-nil (postings_of a ls)

-- ---- a posting behind the last
module _ (n : ℕ) (zs : List ℤ) (z : ℤ) where
  abbrev first : ℕ
  first = 64 * (n - 1)

  shown_before : length zs < first → postings_on n (zs ++ (z ∷ [])) ≡ postings_on n zs
  shown_before lt =
      let pushed = length_push zs z in
      ap (take 64) (drop_of_length-le (zs ++ (z ∷ [])) (omega arith) ∙ sym (drop_of_length-le zs (omega arith)))

  shown_here : first ≤ length zs → length zs < first + 64 → postings_on n (zs ++ (z ∷ [])) ≡ postings_on n zs ++ (z ∷ [])
  shown_here ge lt =
      let behind = drop first zs in
      let long = length-drop first zs in
      let pushed = length_push behind z in
      ap (take 64) (drop-append-le first zs (z ∷ []) ge)
      ∙ take_all 64 (behind ++ (z ∷ [])) (omega arith)
      ∙ ap (λ xs. xs ++ (z ∷ [])) (sym (take_all 64 behind (omega arith)))

  shown_after : first + 64 ≤ length zs → postings_on n (zs ++ (z ∷ [])) ≡ postings_on n zs
  shown_after ge =
      let long = length-drop first zs in
      ap (take 64) (drop-append-le first zs (z ∷ []) (omega arith))
      ∙ take-append-le 64 (drop first zs) (z ∷ []) (omega arith)

-- ---- the lines up to one more
-- what the first i lines show, and how many postings they have
pub record SoFar (a n : ℕ) (ls : List Line) (zs : List ℤ) (passed i : ℕ) : Type 0 where
  pub shown : zs ≡ postings_on n (postings_of a (take i ls))
  pub count : passed ≡ length (postings_of a (take i ls))
  pub few : passed ≤ i

abbrev pub no_line : Line
no_line = record { account = 0; cents = pos 0 }

pub nothing_so_far : (a n : ℕ) (ls : List Line) (zs : List ℤ) → zs ≡ [] → SoFar a n ls zs 0 0
nothing_so_far a n ls zs e = record { shown = e ∙ ap (take 64) (sym (drop-nil (64 * (n - 1)))); count = refl; few = omega arith }

pub restated : (a n : ℕ) (ls : List Line) (zs ys : List ℤ) (k m i : ℕ) → ys ≡ zs → m ≡ k → SoFar a n ls zs k i → SoFar a n ls ys m i
restated a n ls zs ys k m i e f h = subst (λ xs. SoFar a n ls xs m i) (sym e) (subst (λ j. SoFar a n ls zs j i) (sym f) h)

module _ (a n : ℕ) (ls : List Line) (zs : List ℤ) (passed i : ℕ) (so_far : SoFar a n ls zs passed i) where
  abbrev before : List ℤ
  before = postings_of a (take i ls)

  -- while not all 64 are passed there is room for one more
  pub room_left : passed < 64 * (n - 1) + 64 → length zs < 64
  room_left lt =
      let first = 64 * (n - 1) in
      let long = length-drop first before in
      let few = length-take 64 (drop first before) in
      let same = ap length so_far.shown in
      let count = so_far.count in
      omega arith

  module _ (l : Line) (lt : i < length ls) (at : get_or ls i no_line ≡ l) where
    more : take (i + 1) ls ≡ take i ls ++ (l ∷ [])
    more = take_more ls i no_line lt ∙ ap (λ l. take i ls ++ (l ∷ [])) at

    pub other_account : l.account ≢ a → SoFar a n ls zs passed (i + 1)
    other_account e =
        let same : postings_of a (take (i + 1) ls) ≡ before = ap (postings_of a) more ∙ posted_there a (take i ls) l e in
        let few = so_far.few in
        record {
          shown = so_far.shown ∙ ap (postings_on n) (sym same);
          count = so_far.count ∙ ap length (sym same);
          few = omega arith;
        }

    module _ (e : l.account ≡ a) where
      one_more : postings_of a (take (i + 1) ls) ≡ before ++ (l.cents ∷ [])
      one_more = ap (postings_of a) more ∙ posted_here a (take i ls) l e

      counted : passed + 1 ≡ length (postings_of a (take (i + 1) ls))
      counted = ap (λ k. k + 1) so_far.count ∙ sym (length_push before l.cents) ∙ ap length (sym one_more)

      pub on_page : 64 * (n - 1) ≤ passed → passed < 64 * (n - 1) + 64 → SoFar a n ls (zs ++ (l.cents ∷ [])) (passed + 1) (i + 1)
      on_page ge less =
          let count = so_far.count in
          let few = so_far.few in
          record {
            shown = ap (λ xs. xs ++ (l.cents ∷ [])) so_far.shown ∙ sym (shown_here n before l.cents (omega arith) (omega arith)) ∙ ap (postings_on n) (sym one_more);
            count = counted;
            few = omega arith;
          }

      pub off_page : (passed < 64 * (n - 1)) ⊎ (64 * (n - 1) + 64 ≤ passed) → SoFar a n ls zs (passed + 1) (i + 1)
      off_page out =
          let count = so_far.count in
          let few = so_far.few in
          let same : postings_on n (before ++ (l.cents ∷ [])) ≡ postings_on n before =
          ⊎_elim (λ less. shown_before n before l.cents (omega arith)) (λ ge. shown_after n before l.cents (omega arith)) out in
          record {
            shown = so_far.shown ∙ sym same ∙ ap (postings_on n) (sym one_more);
            count = counted;
            few = omega arith;
          }
