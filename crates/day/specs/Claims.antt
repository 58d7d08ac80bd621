-- What is proved of every list of calls, however they are made, over every ledger.
use Rattle.std.specs.Prelude.{◌≡◌, ℕ, List, [], ◌∷◌, ◌++◌, Ok, Err, Result}
use Rattle.ledger.specs.View.{View}
use Rattle.refusals.specs.declared.Refusal.{Refusal}
use Rattle.pool.specs.declared.call.Call.{Call}
use Rattle.pool.specs.declared.call.Answer.{Answer}
use Rattle.pool.specs.Day.{Day, Does, made_posts}
use Rattle.day.specs.Book.{Answered, blank, told}
use Rattle.day.specs.Law.{Seen, Took, Keeps, Goes, Law, written}

-- what a function of one call answers, as an answer in a list
abbrev pub answer_of : {X : Type 0} → (X → Answer) → Result X Refusal → Answered
answer_of wrap (Ok x) = Ok (wrap x)
answer_of wrap (Err f) = Err f

-- a call that did what its own contract says, on the ledger x that is y after it, is a list of calls
abbrev pub OneCallGoes : (X : Type 0) {L : Type 0} → Seen L → Took L → Type 0
OneCallGoes X {L = L} view took =
    (wrap : X → Answer) (d : Day) (x : L) (c : Call) (r : Result X Refusal) (e : Day) (y : L) →
    Does wrap d (view x) c r e (view y) →
    took x (made_posts d c r) y →
    Keeps (made_posts d c r) x y →
    Goes view took d x (c ∷ []) (answer_of wrap r ∷ []) e y

-- so is a call that was lent no ledger, whose contract speaks of every ledger as seen: the ledger
-- is the very same
abbrev pub QuietCallGoes : (X : Type 0) {L : Type 0} → Seen L → Took L → Type 0
QuietCallGoes X {L = L} view took =
    (wrap : X → Answer) (d : Day) (x : L) (c : Call) (r : Result X Refusal) (e : Day) →
    ((v : View) → Does wrap d v c r e v) →
    Goes view took d x (c ∷ []) (answer_of wrap r ∷ []) e x

-- one list of calls and then another are one list, from the first day and ledger to the last
abbrev pub ListsGoOn : {L : Type 0} → Seen L → Took L → Type 0
ListsGoOn {L = L} view took =
    (d e f : Day) (x y z : L) (cs ds : List Call) (rs ss : List Answered) →
    Goes view took d x cs rs e y → Goes view took e y ds ss f z →
    Goes view took d x (cs ++ ds) (rs ++ ss) f z

-- calls that each do what their own contract says, from blank register and sheets on, follow the law
-- of the day
abbrev pub LawStands : {L : Type 0} → Seen L → Took L → Type 0
LawStands {L = L} view took =
    (n : ℕ) (d e : Day) (x z : L) (cs : List Call) (rs : List Answered) →
    d ≡ told (blank n) → Goes view took d x cs rs e z →
    Law view took n x cs rs e z

-- and the ledger has taken the posts that the book tells
abbrev pub PostsWritten : {L : Type 0} → Seen L → Took L → Type 0
PostsWritten {L = L} view took =
    (n : ℕ) (d e : Day) (x z : L) (cs : List Call) (rs : List Answered) →
    d ≡ told (blank n) → Goes view took d x cs rs e z →
    took x (written (blank n) cs rs) z
