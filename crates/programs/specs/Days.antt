-- What the day's program writes.
use Rattle.std.specs.Prelude.{ℕ, List, Option}
use Rattle.streams.specs.Outputs.{AppendsFront}
use Rattle.day_file.specs.declared.settled.Reply.{Reply}
use Rattle.day_file.specs.Settles.{Replies, text_of}

-- a front of the text that the file is answered
pub record WritesFront (old new : Option (List ℕ)) (file : List ℕ) : Type 0 where
  pub reply : Reply
  pub replies : Replies file reply
  pub front : AppendsFront old new (text_of reply)
