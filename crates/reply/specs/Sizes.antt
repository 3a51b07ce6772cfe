-- How much a group sends and how much is replied, by the marks of the table.
use Rattle.std.specs.Prelude.{ℕ, zero, suc, ◌+◌, ◌*◌, ◌/◌, cond, not, ◌&&◌, List, length}
use Rattle.table.specs.declared.Record.{Record}
use Rattle.table.specs.Marks.{numbered, is_excluded}
use Rattle.reply.specs.declared.GroupSize.{GroupSize}

-- the sum of a measure over the numbers 1 to n
abbrev pub total : (ℕ → ℕ) → ℕ → ℕ
total f zero = 0
total f (suc n) = total f n + f (suc n)

-- bytes that hold so many bits
abbrev pub in_bytes : ℕ → ℕ
in_bytes bits = (bits + 7) / 8

-- what number n adds to each count
abbrev pub chosen_at : List Record → ℕ → ℕ
chosen_at rs n = cond (numbered rs n).chosen 1 0

-- every chosen write is sent its bits, an excluded one too
abbrev pub sent_at : List Record → ℕ → ℕ
sent_at rs n = cond ((numbered rs n).chosen && (numbered rs n).write) (numbered rs n).length 0

-- a chosen read that is not excluded has its bits replied
abbrev pub kept_at : List Record → ℕ → ℕ
kept_at rs n = cond ((numbered rs n).chosen && (not (numbered rs n).write && not (is_excluded rs n))) (numbered rs n).length 0

-- every chosen excluded number is listed
abbrev pub listed_at : List Record → ℕ → ℕ
listed_at rs n = cond ((numbered rs n).chosen && is_excluded rs n) 1 0

-- Two bytes for each number of the list, and two for the trailer.
abbrev pub group_size : List Record → GroupSize
group_size rs =
    let N = length rs in
    let body = in_bytes (total (kept_at rs) N) in
    let list = 2 * total (listed_at rs) N in
    record { chosen = total (chosen_at rs) N; sent = in_bytes (total (sent_at rs) N); body = body; list = list; reply = body + list + 2 }
