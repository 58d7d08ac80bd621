-- What a call makes of register and sheets is what the book tells after it.
use Rattle.std.proofs.Common.{◌≡◌, ℕ, zero, suc, ◌-◌, List, [], ◌∷◌, map, get_or, set, is_some, unwrap_or, Ok, true, sym, refl, ap, ◌∙◌}
use Rattle.std.proofs.lemmas.List.{map-set}
use Rattle.sheets.specs.declared.row.Figures.{Figures}
use Rattle.sheets.specs.declared.row.Row.{Row}
use Rattle.sheets.specs.declared.row.State.{State}
use Rattle.sheets.specs.declared.row.State.TheVariants as state
use Rattle.sheets.specs.declared.row.Event.{Event}
use Rattle.sheets.specs.declared.row.Event.TheVariants as event
use Rattle.sheets.specs.Sheets.{no_figures, figures_at, with_figures, offer_as, start_as, read_as, with_submission, with_start, with_reading, with_position, with_demand, with_state, row_after, next}
use Rattle.offers.specs.Curves as curves
use Rattle.pool.specs.declared.call.Call.{Call}
use Rattle.pool.specs.declared.call.Call.TheVariants.{Register, Open, Lodge, Start, Reading, Position, Demand, Close, Settle, Adjust}
use Rattle.ledger.specs.View.{View}
use Rattle.pool.specs.Day.{no_row, sheet, at_sheet, put, submitted, checks, table, after}
use Rattle.day.proofs.Passed.{passed, state_passed, closes, settles}
use Rattle.day.specs.Book.{Offer, Entry, Page, Book, absent, no_page, page, keep, enter, offered, started, read, marked, noted, told_offer, told_entry, told_page, told}

told_at : (es : List Entry) (k : ℕ) → get_or (map told_entry es) k no_figures ≡ told_entry (get_or es k absent)
told_at [] k = refl
told_at (e ∷ es) zero = refl
told_at (e ∷ es) (suc k) = told_at es k

pub figures_told : (p : Page) (k : ℕ) → figures_at (told_page p) k ≡ told_entry (get_or p.entries k absent)
figures_told p k = told_at p.entries k

enter_told : (p : Page) (f : ℕ) (e : Entry) (x : Figures) → x ≡ told_entry e → with_figures (told_page p) (f - 1) x ≡ told_page (enter p f e)
enter_told p f e x h =
    ap (λ gs. record { state = p.state; figures = gs; demand = p.demand; positions = p.positions })
    (ap (set (map told_entry p.entries) (f - 1)) h ∙ sym (map-set told_entry p.entries (f - 1) e))

-- each change of a row is the book's
pub offered_told : (p : Page) (f : ℕ) (o : Offer) → with_submission (told_page p) (f - 1) (told_offer o) ≡ told_page (offered p f o)
offered_told p f o = enter_told p f _ _ (ap (λ x. offer_as x (told_offer o)) (figures_told p (f - 1)))

pub started_told : (p : Page) (f n : ℕ) → with_start (told_page p) (f - 1) n ≡ told_page (started p f n)
started_told p f n = enter_told p f _ _ (ap (λ x. start_as x n) (figures_told p (f - 1)))

pub read_told : (p : Page) (f n : ℕ) → with_reading (told_page p) (f - 1) n ≡ told_page (read p f n)
read_told p f n = enter_told p f _ _ (ap (λ x. read_as x n) (figures_told p (f - 1)))

page_at : (ps : List Page) (k : ℕ) → get_or (map told_page ps) k no_row ≡ told_page (get_or ps k no_page)
page_at [] k = refl
page_at (p ∷ ps) zero = refl
page_at (p ∷ ps) (suc k) = page_at ps k

-- the sheet that a call reads is the page in the book
pub page_told : (b : Book) (i : ℕ) → sheet (told b) i ≡ told_page (page b i)
page_told b i = page_at b.pages (i - 1)

keep_told : (b : Book) (i : ℕ) (r : Row) (p : Page) → r ≡ told_page p → put (told b) i r ≡ told (keep b i p)
keep_told b i r p e =
    ap (λ rs. record { facilities = b.facilities; prices = b.prices; rows = rs })
    (ap (set (map told_page b.pages) (i - 1)) e ∙ sym (map-set told_page b.pages (i - 1) p))

-- the page has the event's place in its state
page_comes : (b : Book) (i : ℕ) (e : Event) → at_sheet (told b) e i ≡ Ok tt → is_some (next (page b i).state e) ≡ true
page_comes b i e h =
    ap (λ (r : Row). is_some (next r.state e)) (sym (page_told b i)) ∙ (state_passed b.facilities b.prices (sheet (told b) i) e i h).1

marked_told : (b : Book) (i : ℕ) (e : Event) (s : State) → unwrap_or (next (page b i).state e) (page b i).state ≡ s → put (told b) i (row_after (sheet (told b) i) e) ≡ told (keep b i (marked (page b i) s))
marked_told b i e s is = keep_told b i _ _ (ap (λ r. row_after r e) (page_told b i) ∙ ap (with_state (told_page (page b i))) is)

-- a call that passed the table
pub told_after : (b : Book) (v : View) (c : Call) → table (told b) v c ≡ Ok tt → after (told b) c ≡ told (noted b c)
told_after b v (Register a x c t) h = refl
told_after b v (Open lo hi) h = refl
told_after b v (Lodge f i u w ps) h = keep_told b i _ _ (ap (λ r. with_submission r (f - 1) (submitted u w ps.now)) (page_told b i) ∙ offered_told (page b i) f (record { up = u; down = w; curve = curves.curve ps.now }))
told_after b v (Start f i n) h = keep_told b i _ _ (ap (λ r. with_start r (f - 1) n) (page_told b i) ∙ started_told (page b i) f n)
told_after b v (Reading f i n) h = keep_told b i _ _ (ap (λ r. with_reading r (f - 1) n) (page_told b i) ∙ read_told (page b i) f n)
told_after b v (Position a i c l) h = keep_told b i _ _ (ap (λ r. with_position r (a - 1) (record { contract = c; load = l })) (page_told b i))
told_after b v (Demand i n) h = keep_told b i _ _ (ap (λ r. with_demand r n) (page_told b i))
told_after b v (Close i k) h = marked_told b i event.Close state.Closed (closes (page b i).state (page_comes b i event.Close (passed (checks (told b) v (Close i k)) h).1.1.0))
told_after b v (Settle i) h = marked_told b i event.Settle state.Settled (settles (page b i).state (page_comes b i event.Settle (passed (checks (told b) v (Settle i)) h).1.1.0))
told_after b v (Adjust f i n) h = keep_told b i _ _ (ap (λ r. with_reading r (f - 1) n) (page_told b i) ∙ read_told (page b i) f n)
