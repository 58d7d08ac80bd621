use Rattle.std.proofs.Common.{rules, ◌≡◌, ℕ, List, Option, Some, None, Result, Ok, Err, is_ok, take, IfSome, OnOk, OnErr, ap, ◌∙◌, subst}
use Rattle.std.specs.Io.KnownBytes.{Consumes}
use Rattle.streams.specs.Outputs.{AppendsFront}
use Rattle.submission_text.specs.Write.{answer_text}
use Rattle.programs.proofs.intake.answer_submission.Goals as goal

-- what is said of a text where writing it failed is said of the answer to the bytes that were read
answered : {T U E F : Type 0} (r : Result T E) (q : Result U F) (a : Option (List ℕ)) (P : List ℕ → Type 0) (f g : List ℕ → List ℕ) (text answer : List ℕ)
    → is_ok q ≡ is_ok r → IfSome a (λ bytes. text ≡ g bytes) → answer ≡ f text → OnErr r (P answer) → OnErr q (IfSome a (λ bytes. P (f (g bytes))))
answered r (Ok x) a P f g text answer same read said p = tt
answered (Ok y) (Err e) a P f g text answer same read said p = cc
answered (Err d) (Err e) None P f g text answer same read said p = tt
answered (Err d) (Err e) (Some xs) P f g text answer same read said p = subst P (said ∙ ap f read) p

-- what was read is the front of the bytes, where they are known
consumes : {U F : Type 0} (q : Result U F) (a b : Option (List ℕ)) (text : List ℕ) → IfSome a (λ bytes. text ≡ take 4096 bytes) → Consumes a b text → OnOk q (IfSome a (λ bytes. Consumes a b (take 4096 bytes)))
consumes (Err e) a b text read p = tt
consumes (Ok x) None b text read p = tt
consumes (Ok x) (Some xs) b text read p = subst (Consumes (Some xs) b) read p

pub returns-clause-consumed : goal.returns-clause-consumed
returns-clause-consumed g c = consumes c.map_err-2.result (g.R.Read.remaining c.args.input.now) (g.R.Read.remaining c.read_front.new.input) c.in_ok-text.text.items (search rules) (search rules)

pub returns-clause-front : goal.returns-clause-front
returns-clause-front g c =
    let text = c.in_ok-text.text.items in
    let said : c.bytes.result.now ≡ answer_text text = search rules in
    answered c.write_all.result c.map_err-2.result (g.R.Read.remaining c.args.input.now) (AppendsFront _ _) answer_text (take 4096) text c.bytes.result.now
    c.map_err-2.ensures.variant (search rules) said c.write_all.ensures.front
