use Rattle.std.proofs.Common.{◌≡◌, ℕ, List, Bool, [], ◌∷◌, ◌++◌, ◌∙◌, length, take, drop, Option, Some, None, Ok, refl, ap}
use Rattle.std.proofs.Math.Seq.{drop-append_seam, take-length}
use Rattle.host.specs.declared.group.Order.{Order}
use Rattle.host.specs.declared.group.Action.TheVariants.{Write}
use Rattle.refusal.specs.Checks.{answered}
use Rattle.refusal.specs.declared.Refusal.{Refusal}
use Rattle.host.proofs.group.Group.write.Goals as goal

answered_value : (x y : ℕ) (o : Option Refusal) → Ok y ≡ answered x o → y ≡ x
answered_value x y None e = search
answered_value x y (Some r) e = search

-- the order's own bits are the last that the group holds
pub returns-clause-taken : goal.returns-clause-taken
returns-clause-taken c =
    let held = c.args.self.now.bits.items in
    let bits = c.args.bits.now in
    let first : c.len-first.result ≡ length held = search in
    let after : c.extend_from_slice.new.self.items ≡ held ++ bits = c.in_ok-extend_from_slice.ensures.items in
    let own : take (length bits) (drop c.len-first.result c.extend_from_slice.new.self.items) ≡ bits =
    ap (λ (n : ℕ). take (length bits) (drop n c.extend_from_slice.new.self.items)) first
    ∙ ap (λ (bs : List Bool). take (length bits) (drop (length held) bs)) after
    ∙ ap (take (length bits)) (drop-append_seam held bits)
    ∙ take-length bits in
    let order : Order = record { number = c.args.number; length = c.in_ok-length.length; action = Write c.len-first.result } in
    let orders : c.push_reserved.new.self.items ≡ c.args.self.now.orders.items ++ order ∷ [] =
    c.push_reserved.ensures.items ∙ ap (λ (os : List Order). os ++ order ∷ []) c.reserve.ensures.items in
    let long = answered_value _ _ _ c.in_ok-length.ensures in
    (order, orders, refl, long, own)
