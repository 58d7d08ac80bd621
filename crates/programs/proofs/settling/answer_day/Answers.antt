use Rattle.std.proofs.Common.{◌≡◌, ℕ, List, Option, Some, None, IfSome, subst, rules}
use Rattle.std.specs.Io.KnownBytes.{Appends}
use Rattle.streams.specs.Outputs.{AppendsFront}
use Rattle.day_file.specs.Settles.{Replies, text_of}
use Rattle.programs.specs.Days.{WritesFront}
use Rattle.programs.proofs.settling.answer_day.Goals as goal

-- what is said of the text that was read is said of the bytes, where they are known
read_as : (a : Option (List ℕ)) (text : List ℕ) (P : List ℕ → Type 0) → IfSome a (λ bytes. text ≡ bytes) → P text → IfSome a P
read_as None text P e p = tt
read_as (Some bytes) text P e p = subst P e p

pub returns-in-Ok : goal.returns-in-Ok
returns-in-Ok g c =
    let file = c.in_ok-file.file.items in
    let reply = c.in_ok-reply.reply in
    let whole : IfSome (g.R.Read.remaining c.args.input.now) (λ bytes. file ≡ bytes) = search rules in
    let replies : Replies file reply = search rules in
    let grows : List ℕ → Type 0 = Appends (g.W.Write.contents c.args.output.now) (g.W.Write.contents c.write_all.new.output) in
    record {
      answered = read_as _ file (λ (f : List ℕ). Replies f reply × grows (text_of reply)) whole (replies, subst grows c.text.ensures c.in-Ok.ensures.whole);
      failed = tt;
      line = tt;
    }

pub returns : goal.returns
returns g c =
    let file = c.in_ok-file.file.items in
    let reply = c.in_ok-reply.reply in
    let whole : IfSome (g.R.Read.remaining c.args.input.now) (λ bytes. file ≡ bytes) = search rules in
    let replies : Replies file reply = search rules in
    let old = g.W.Write.contents c.args.output.now in
    let new = g.W.Write.contents c.write_all.new.output in
    record {
      answered = tt;
      failed = read_as _ file (WritesFront old new) whole
          (record { reply = reply; replies = replies; front = subst (λ (text : List ℕ). AppendsFront old new text) c.text.ensures c.in-Err.ensures.front });
      line = tt;
    }
