-- Sums over numbers, one number more at a time.
use Rattle.std.proofs.Common.{◌≡◌, ℕ, ◌+◌, ◌-◌, Bool, cond, not, ◌&&◌, List, get_or, add-one, arith}
use Rattle.table.specs.declared.Record.{Record}
use Rattle.table.specs.Rules.{blank}
use Rattle.table.specs.Marks.{is_excluded}
use Rattle.reply.specs.Sizes.{total, chosen_at, sent_at, kept_at, listed_at}

pub total_more : (f : ℕ → ℕ) (n : ℕ) → total f (n + 1) ≡ total f n + f (n + 1)
total_more f n = rw add-one

pub total_next : (f : ℕ → ℕ) (n a x : ℕ) → a ≡ total f n → x ≡ f (n + 1) → a + x ≡ total f (n + 1)
total_next f n a x e h = rw (total_more f n, e, h)

-- the record at index n has number n + 1
at_next : (n : ℕ) → n + 1 - 1 ≡ n
at_next n = omega arith

pub chosen_next : (rs : List Record) (n : ℕ) → cond (get_or rs n blank).chosen 1 0 ≡ chosen_at rs (n + 1)
chosen_next rs n = rw (at_next n)

pub sent_next : (rs : List Record) (n : ℕ)
    → cond ((get_or rs n blank).chosen && (get_or rs n blank).write) (get_or rs n blank).length 0 ≡ sent_at rs (n + 1)
sent_next rs n = rw (at_next n)

pub kept_next : (rs : List Record) (n : ℕ) (e : Bool) → e ≡ is_excluded rs (n + 1)
    → cond ((get_or rs n blank).chosen && (not (get_or rs n blank).write && not e)) (get_or rs n blank).length 0 ≡ kept_at rs (n + 1)
kept_next rs n e h = rw (h, at_next n)

pub listed_next : (rs : List Record) (n : ℕ) (e : Bool) → e ≡ is_excluded rs (n + 1)
    → cond ((get_or rs n blank).chosen && e) 1 0 ≡ listed_at rs (n + 1)
listed_next rs n e h = rw (h, at_next n)
