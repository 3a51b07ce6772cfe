use Rattle.std.proofs.Common.{◌≡◌, ◌∷◌, [], ◌++◌, length}
use Rattle.reply.specs.Numbers.{with_numbers, listed}
use Rattle.reply.proofs.put_list.Given as goal

-- What the numbers that are left still put makes the whole list.
abbrev pub invariant-loop-number : goal.invariant-loop-number
invariant-loop-number l =
    with_numbers l.reply l.at (listed l.records l.number ++ l.size.list ∷ [])
    ≡ with_numbers l.initial.reply l.initial.at (listed l.records (length l.records) ++ l.size.list ∷ [])
