-- Lines entered one after another.
use Rattle.std.proofs.Common.{◌≡◌, ℕ, ◌+◌, ◌-◌, ◌<◌, ◌≤◌, false, eqb, ◌≢◌, List, [], ◌∷◌, ◌++◌, length, get_or, take, drop, set, ℤ, Some, None, Ok, Err, Result, sym, ap, ◌∙◌, subst, append_assoc, arith}
use Rattle.std.proofs.lemmas.List.{take_at, set_at, drop_more, length_push, length-append, length-drop}
use Rattle.std.proofs.lemmas.Bool.{eqb-false}
use Rattle.ledger.specs.declared.reason.Reason.{Reason}
use Rattle.ledger.specs.Posting.{refusal}
use Rattle.ledger.proofs.Tested.{taken_because}
use Rattle.journal.specs.declared.line.Line.{Line}
use Rattle.journal.specs.Lines.{room, lines_view, journal_view, Written, offered}

-- ls stands in the front n lines of the memory, which was ss before the first of them came
pub record Holding (ss ls : List Line) (n : ℕ) (memory : List Line) : Type 0 where
  pub count : n ≡ length ls
  pub within : n ≤ room ss
  pub lines : memory ≡ ls ++ drop n ss

pub holding_none : (ss memory : List Line) (n : ℕ) → n ≡ 0 → memory ≡ ss → Holding ss [] n memory
holding_none ss memory n z e = record { count = z; within = omega arith; lines = e ∙ ap (λ k. drop k ss) (sym z) }

module _ (ss ls : List Line) (n : ℕ) (memory : List Line) (h : Holding ss ls n memory) where
  front : take n memory ≡ ls
  front = ap (take n) h.lines ∙ take_at ls (drop n ss) n (sym h.count)

  as_long : length memory ≡ length ss
  as_long =
      let a = h.count in let b = h.within in
      ap length h.lines ∙ length-append ls (drop n ss) ∙ (let d = length-drop n ss in omega arith)

  same_view : journal_view memory n ≡ lines_view (room ss) ls
  same_view = rw (front, as_long)

  module _ (l : Line) (free : n < room ss) where
    line_behind : set memory n l ≡ (ls ++ (l ∷ [])) ++ drop (n + 1) ss
    line_behind =
        ap (λ ms. set ms n l) (h.lines ∙ ap (λ ms. ls ++ ms) (drop_more ss n l (omega arith)))
        ∙ set_at ls (get_or ss n l) (drop (n + 1) ss) l n (sym h.count)
        ∙ sym (append_assoc ls (l ∷ []) (drop (n + 1) ss))

    holding_push : Holding ss (ls ++ (l ∷ [])) (n + 1) (set memory n l)
    holding_push = record { count = ap (λ k. k + 1) h.count ∙ sym (length_push ls l); within = omega arith; lines = line_behind }

  place_free : eqb (room ss - length ls) 0 ≡ false → n < room ss
  place_free some =
      let a = h.count in let b = h.within in
      let left : room ss - length ls ≢ 0 = eqb-false (room ss - length ls) 0 some in
      omega arith

  -- what a post leaves, taken or refused
  pub holding_offered : (zs zs' : List ℤ) (l : Line) (r : Result Unit Reason) (memory' : List Line) (n' : ℕ) → Written memory n zs l.account l.cents r memory' n' zs' → Holding ss (offered (room ss) ls l) n' memory'
  holding_offered zs zs' l (Ok u) memory' n' w =
      let v = lines_view (room ss) ls in
      let yes : refusal v l.account l.cents ≡ None = subst (λ v. refusal v l.account l.cents ≡ None) same_view w.0 in
      rw (yes, w.1, w.2) (holding_push l (place_free (taken_because v l.account l.cents yes).1))
  holding_offered zs zs' l (Err e) memory' n' w =
      let no : refusal (lines_view (room ss) ls) l.account l.cents ≡ Some e = subst (λ v. refusal v l.account l.cents ≡ Some e) same_view w.0 in
      rw (no, w.1, w.2) h
