use Rattle.std.proofs.Common.{rules, ◌≡◌, ℕ, ◌+◌, List, [], Result, Ok, Err, Option, take, drop, length, sym, ap, ◌∙◌, subst}
use Rattle.std.proofs.lemmas.List.{drop-take, with_items_is, places}
use Rattle.std.specs.Result.{result_unwrap_or}
use Rattle.std.specs.Io.{appended_bytes}
use Rattle.std.specs.Io.KnownBytes.{Consumes, ReadConsumes}
use Rattle.std.proofs.KnownBytes.{Consumes-nil, Consumes-kept}
use Rattle.streams.proofs.input.append_read.Goals as goal

-- what was read stands after the front of the memory, and is all that was taken
Consumes-read : {E : Type 0} (a b : Option (List ℕ)) (r : Result ℕ E) (memory : List ℕ) (front : ℕ) → ReadConsumes a b r (drop front memory)
    → Consumes a b (drop front (take (front + result_unwrap_or r 0) memory))
Consumes-read a b (Ok n) memory front h = subst (Consumes a b) (sym (drop-take front n memory)) h.0
Consumes-read a b (Err e) memory front h =
    let none : drop front (take (front + 0) memory) ≡ [] = drop-take front 0 memory in
    subst (Consumes a b) (sym none) (Consumes-kept a a b [] (Consumes-nil a) h)

-- so it is what the text has more, once it is cut there
Consumes-appended : {E : Type 0} (a b : Option (List ℕ)) (r : Result ℕ E) (memory old grown new : List ℕ) (front got : ℕ) → ReadConsumes a b r (drop front memory)
    → length old ≡ front → got ≡ result_unwrap_or r 0 → grown ≡ memory → new ≡ take (front + got) grown → Consumes a b (appended_bytes old new)
Consumes-appended a b r memory old grown new front got read long said same cut =
    let kept : new ≡ take (front + result_unwrap_or r 0) memory = cut ∙ ap (take (front + got)) same ∙ ap (λ k. take (front + k) memory) said in
    subst (Consumes a b) (sym (ap (λ k. drop k new) long ∙ ap (drop front) kept)) (Consumes-read a b r memory front read)

pub returns-clause-bytes : goal.returns-clause-bytes
returns-clause-bytes g c =
    let memory = c.read_at-got.new.memory in
    Consumes-appended _ _ c.read_at-got.result memory c.args.text.now.items _ c.truncate.new.self.items c.len-filled.result c.unwrap_or.result c.read_at-got.ensures.bytes
    (search (rules, places)) c.unwrap_or.ensures (with_items_is c.resize.new.self memory (search (rules, places))) c.truncate.ensures.items
