-- The sheet of two stations settled and corrected over the account table: how many posts that takes, or why it is refused.
use Rattle.std.specs.Prelude.{ℕ, List, [], ◌∷◌, ◌++◌, replicate, ℤ, pos, Some, None, Ok, Err, Option, Result, codes, decimal, slice_set}
use Rattle.std.specs.Option.{option_map, option_and_then}
use Rattle.ledger.specs.View.{View, most}
use Rattle.ledger.specs.Posting.{reason_number}
use Rattle.ledgers.specs.Limits.{limited}
use Rattle.ledgers.specs.Tables.{table_view}
use Rattle.refusals.specs.declared.Refusal.{Refusal}
use Rattle.refusals.specs.Table.{refusal_number, refusal_place, refusal_reason}
use Rattle.sheets.specs.declared.row.State.{State}
use Rattle.sheets.specs.declared.row.State.TheVariants.{Closed, Settled}
use Rattle.amounts.specs.Figures.{facilities}
use Rattle.pool.specs.declared.call.Call.{Call}
use Rattle.pool.specs.declared.call.Call.TheVariants.{Settle, Adjust}
use Rattle.pool.specs.declared.call.Answer.{Answer}
use Rattle.pool.specs.declared.call.Answer.TheVariants.{Posts}
use Rattle.pool.specs.Checks.{Check}
use Rattle.pool.specs.Day.{Day, table, answer}
use Rattle.worked_figures.specs.declared.cases.Settling.{Settling}
use Rattle.worked_figures.specs.declared.cases.Adjustment.{Adjustment}
use Rattle.worked_figures.specs.Answers.{number_if}
use Rattle.worked_figures.specs.Reports.{Shown}
use Rattle.worked_figures.specs.Nets.{prices, row}

-- a day of the one sheet, the first station with this reading
abbrev pub day : State → ℕ → Day
day state reading = record { facilities = facilities; prices = Some prices; rows = row state reading ∷ [] }

-- the account table, no account of which has a credit limit that binds but account 3
abbrev pub limits : ℕ → List ℤ
limits limit = slice_set (replicate 64 most) 3 (pos limit)

abbrev pub table_under : ℕ → View
table_under limit = limited (limits limit) (table_view (replicate 12 (pos 0)))

-- what a call answers: the refusal that the table of refusals gives it, else its own answer
abbrev pub unless_refused : Check → Answer → Result Answer Refusal
unless_refused (Ok _) a = Ok a
unless_refused (Err f) a = Err f

unfoldable pub answer_of : Day → View → Call → Result Answer Refusal
answer_of d v c = unless_refused (table d v c) (answer d c)

unfoldable pub settled : ℕ → Result Answer Refusal
settled limit = answer_of (day Closed 700000) (table_under limit) (Settle 1)

unfoldable pub corrected : ℕ → Result Answer Refusal
corrected to = answer_of (day Settled 700000) (table_under 4294967295) (Adjust 1 1 to)

-- the number of posts of a call that is taken
abbrev pub posts_in : Answer → Option ℕ
posts_in (Posts n) = Some n
posts_in a = None

abbrev pub posts_of : Result Answer Refusal → Option ℕ
posts_of (Ok a) = posts_in a
posts_of (Err f) = None

abbrev pub refusal_in : Result Answer Refusal → Option Refusal
refusal_in (Ok a) = None
refusal_in (Err f) = Some f

unfoldable pub settle_figure : ℕ → List ℕ → Option ℕ → Option ℕ → Shown
settle_figure limit what expected computed = record {
  what = codes "settle with a credit limit of " ++ (decimal limit ++ (codes " on account 3, " ++ what));
  expected = number_if (option_map pos expected);
  computed = number_if (option_map pos computed);
}

abbrev pub settle_figures : Settling → List Shown
settle_figures x =
    settle_figure x.limit (codes "posts") x.posts (posts_of (settled x.limit))
    ∷ settle_figure x.limit (codes "refusal") x.refusal (option_map refusal_number (refusal_in (settled x.limit)))
    ∷ settle_figure x.limit (codes "place") x.place (option_map refusal_place (refusal_in (settled x.limit)))
    ∷ settle_figure x.limit (codes "reason") x.reason (option_map reason_number (option_and_then refusal_reason (refusal_in (settled x.limit))))
    ∷ []

abbrev pub adjustment_figures : Adjustment → List Shown
adjustment_figures x = record {
  what = codes "correction of the settled sheet to " ++ (decimal x.to ++ codes ", posts");
  expected = number_if (option_map pos x.posts);
  computed = number_if (option_map pos (posts_of (corrected x.to)));
} ∷ []
