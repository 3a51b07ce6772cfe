-- The reader of commands goes on.
use Rattle.std.proofs.Common.{ℕ, ◌<◌, ◌≤◌, List, length, drop, Some, arith, length-drop}
use Rattle.command.specs.declared.Command.{Command}
use Rattle.command.specs.declared.Command.TheVariants.{Control, Test, Localise, Data}
use Rattle.command.specs.declared.Next.{Next}
use Rattle.command.specs.Words.{Reads, Given}

-- what a word's command leaves is shorter than the bytes that begin with the word
reads_shorter : (word : ℕ) (bytes : List ℕ) (command : Command) (rest : List ℕ) → 2 ≤ length bytes → Reads word (drop 2 bytes) command rest → length rest < length bytes
reads_shorter word bytes (Control number write) rest two reads = rw reads.2 (rw length-drop (omega arith))
reads_shorter word bytes Test rest two reads = rw reads.1 (rw length-drop (omega arith))
reads_shorter word bytes Localise rest two reads = rw reads.1 (rw length-drop (omega arith))
reads_shorter word bytes (Data sent) rest two reads = rw reads.2 (rw (length-drop, length-drop) (omega arith))

-- what follows the next command is shorter than the bytes that it was read from
pub next_shorter : (bytes : List ℕ) (next : Next) → Given bytes (Some next) → length next.rest.now < length bytes
next_shorter bytes next given = reads_shorter _ bytes next.command next.rest.now (omega (arith, given.0)) given.1
