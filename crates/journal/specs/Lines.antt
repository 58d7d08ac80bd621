-- A journal's lines, and the ledger that they are.
use Rattle.std.specs.Prelude.{◌≡◌, ℕ, ◌+◌, ◌-◌, ◌<◌, min, cond, List, [], ◌∷◌, ◌++◌, length, take, ℤ, pos, ◌+ℤ◌, neg_ℤ, ◌≤ℤ◌, Some, None, Ok, Err, fold, Option, Result, ◌==◌, slice_index_or, slice_set}
use Rattle.std.proofs.Common.{lit≤}
use Rattle.std.proofs.Math.Nat.{le_trans, min-le_right, sub-le}
use Rattle.std.specs.Int.Signed.{le_z_yes}
use Rattle.std.specs.List.{All}
use Rattle.ledger.specs.declared.reason.Reason.{Reason}
use Rattle.ledger.specs.View.{View, most, InSpan, Sound}
use Rattle.ledger.specs.Posting.{refusal}
use Rattle.journal.specs.declared.line.Line.{Line}

-- a line's part in the balance of account a
abbrev pub add_line : ℕ → ℤ → Line → ℤ
add_line a z l = cond (l.account == a) (z +ℤ l.cents) z

-- the sum of an account's lines
abbrev pub line_sum : ℕ → List Line → ℤ
line_sum a ls = fold (add_line a) (pos 0) ls

-- how many lines of the memory may be used
abbrev pub room : List Line → ℕ
room memory = min (length memory) 4096

-- the ledger of the lines ls, with room for n in all
abbrev pub lines_view : ℕ → List Line → View
lines_view n ls = record {
  count = 12;
  places = n - length ls;
  balance = λ a. line_sum a ls;
  lowest = λ _. neg_ℤ most;
  highest = λ _. most;
}

-- the journal as seen: the first lines of the memory are in use
abbrev pub journal_view : List Line → ℕ → View
journal_view memory used = lines_view (room memory) (take used memory)

-- the running balances are the sums of the lines
abbrev pub Running : List ℤ → List Line → Type 0
Running zs ls = (a : ℕ) → a < 12 → slice_index_or zs a (pos 0) ≡ line_sum a ls

abbrev pub Spans : List Line → Type 0
Spans ls = (a : ℕ) → a < 12 → InSpan (line_sum a ls)

-- a post moves a balance at most from one end of the span of money to the other
abbrev pub most_moved : ℤ
most_moved = pos 2000000000000000

abbrev pub InMove : ℤ → Type 0
InMove z = (neg_ℤ most_moved ≤ℤ z) × (z ≤ℤ most_moved)

-- no line moves its account further
abbrev pub MovesFit : List Line → Type 0
MovesFit ls = All (λ l. InMove l.cents) ls

-- A journal keeps the spans of a ledger. It stands here since a law of an impl can cite no proof of
-- its own crate.
pub journal_sound : (memory : List Line) (used : ℕ) → Spans (take used memory) → Sound (journal_view memory used)
journal_sound memory used spans = record {
  some = lit≤ tt;
  few = lit≤ tt;
  room = le_trans (sub-le (room memory) (length (take used memory))) (le_trans (min-le_right (length memory) 4096) (lit≤ tt));
  balances = spans;
  lows = λ _ _. (le_z_yes tt, le_z_yes tt);
  highs = λ _ _. (le_z_yes tt, le_z_yes tt);
}

-- a post of x to account a, told by the memory, the number of lines used and the running balances, before and after:
-- one line behind the last and no other memory, or nothing at all
abbrev pub Written : List Line → ℕ → List ℤ → ℕ → ℤ → Result Unit Reason → List Line → ℕ → List ℤ → Type 0
Written ls n zs a x (Ok _) ls' n' zs' =
    (refusal (journal_view ls n) a x ≡ None) × (ls' ≡ slice_set ls n (record { account = a; cents = x })) × (n' ≡ n + 1) × (zs' ≡ slice_set zs a (slice_index_or zs a (pos 0) +ℤ x))
Written ls n zs a x (Err e) ls' n' zs' =
    (refusal (journal_view ls n) a x ≡ Some e) × (ls' ≡ ls) × (n' ≡ n) × (zs' ≡ zs)

abbrev pub unless_refused : Option Reason → List Line → List Line → List Line
unless_refused None taken before = taken
unless_refused (Some _) taken before = before

-- the lines once l is offered: behind the last, or as they were where it is refused
abbrev pub offered : ℕ → List Line → Line → List Line
offered n ls l = unless_refused (refusal (lines_view n ls) l.account l.cents) (ls ++ (l ∷ [])) ls

-- the lines that a journal with room for n takes of those offered to it one after another
abbrev pub entered : ℕ → List Line → List Line
entered n ps = fold (offered n) [] ps
