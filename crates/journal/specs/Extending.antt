-- What posts leave in the memory: their lines behind those that stood there, and all else as it was.
use Rattle.std.specs.Prelude.{◌≡◌, ℕ, ◌+◌, ◌≤◌, List, [], ◌++◌, map, length, take, drop}
use Rattle.std.proofs.Common.{refl, sym, ap, ◌∙◌, add_assoc, add-zero}
use Rattle.std.proofs.Math.Nat.{le_trans, min-le_left}
use Rattle.std.proofs.Math.Seq.{drop-append-add}
use Rattle.std.proofs.lemmas.List.{append_assoc, append-nil, map-append, length-append, length-map, length-take-le, take-append-drop, take_at, drop-drop}
use Rattle.ledger.specs.Posting.{Post}
use Rattle.journal.specs.declared.line.Line.{Line}
use Rattle.journal.specs.Lines.{room}

abbrev pub line_of : Post → Line
line_of p = record { account = p.account; cents = p.cents }

abbrev pub lines_of : List Post → List Line
lines_of ps = map line_of ps

-- the first n lines stand, the lines of ps stand behind them, and the memory behind those is as it was
pub record Extended (before : List Line) (n : ℕ) (ps : List Post) (after : List Line) (m : ℕ) : Type 0 where
  pub used : m ≡ n + length ps
  pub lines : after ≡ (take n before ++ lines_of ps) ++ drop m before
  pub size : length after ≡ length before

-- ---- no post, and posts after posts: laws of the journal, which can cite no proof of its own crate
pub extended_none : (ls : List Line) (n : ℕ) → Extended ls n [] ls n
extended_none ls n = record {
  used = sym (add-zero n);
  lines = sym (ap (λ xs. xs ++ drop n ls) (append-nil (take n ls)) ∙ take-append-drop n ls);
  size = refl;
}

module _ (xs : List Line) (n : ℕ) (ps : List Post) (ys : List Line) (m : ℕ) (within : n ≤ room xs) (g : Extended xs n ps ys m) where
  abbrev front : List Line
  front = take n xs ++ lines_of ps

  front_length : length front ≡ m
  front_length =
      length-append (take n xs) (lines_of ps)
      ∙ ap (λ k. k + length (lines_of ps)) (length-take-le n xs (le_trans within (min-le_left (length xs) 4096)))
      ∙ ap (λ k. n + k) (length-map ps line_of)
      ∙ sym g.used

  pub front_stands : take m ys ≡ front
  front_stands = ap (take m) g.lines ∙ take_at front (drop m xs) m front_length

  module _ (qs : List Post) (zs : List Line) (k : ℕ) (h : Extended ys m qs zs k) where
    behind : drop k ys ≡ drop k xs
    behind =
        let k_is : k ≡ length front + length qs = h.used ∙ ap (λ j. j + length qs) (sym front_length) in
        ap (drop k) g.lines
        ∙ ap (λ j. drop j (front ++ drop m xs)) k_is
        ∙ drop-append-add front (drop m xs) (length qs)
        ∙ drop-drop (length qs) m xs
        ∙ ap (λ j. drop j xs) (sym h.used)

    joined : take m ys ++ lines_of qs ≡ take n xs ++ lines_of (ps ++ qs)
    joined = ap (λ ls. ls ++ lines_of qs) front_stands ∙ append_assoc (take n xs) (lines_of ps) (lines_of qs) ∙ ap (λ ls. take n xs ++ ls) (sym (map-append line_of ps qs))

    pub extended_more : Extended xs n (ps ++ qs) zs k
    extended_more = record {
      used = h.used ∙ ap (λ j. j + length qs) g.used ∙ add_assoc n (length ps) (length qs) ∙ ap (λ j. n + j) (sym (length-append ps qs));
      lines = h.lines ∙ ap (λ ls. ls ++ drop k ys) joined ∙ ap (λ ls. (take n xs ++ lines_of (ps ++ qs)) ++ ls) behind;
      size = h.size ∙ g.size;
    }
