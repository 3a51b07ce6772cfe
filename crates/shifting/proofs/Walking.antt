-- A pass between two SIBs, by what is left of its string and of its sieve.
use Rattle.std.proofs.Common.{◌≡◌, ℕ, zero, suc, ◌+◌, ◌*◌, ◌≤◌, Bool, true, false, cond, ◌&&◌, leb, List, [], ◌∷◌, ◌++◌, map, length, set, replicate, sym, refl, ap, ◌∙◌, ap₂, add-zero, zero-add, arith}
use lib.ListN.{length-replicate}
use Rattle.std.proofs.lemmas.Bool.{and_parts}
use Rattle.table.specs.declared.Record.{Record}
use Rattle.table.specs.Marks.{numbered}
use Rattle.scan.specs.Network.{Network}
use Rattle.scan.specs.Path.{pick}
use Rattle.scan.specs.Moves.{outs}
use Rattle.retarget.specs.Shapes.{Shape, reach_after, on_path}
use Rattle.retarget.specs.Wants.{wanted, aims, opened}
use Rattle.retarget.specs.Strings.{Order, none, read, write, asks, reads, word, part, parts, mask, masks, sift}
use Rattle.plan.specs.declared.visit.Row.{Row}
use Rattle.plan.specs.declared.visit.Row.TheVariants.{Hidden, Read, Write}
use Rattle.plan.specs.declared.wanted.Wanted.{Wanted}
use Rattle.plan.specs.declared.wanted.Plan.{Plan}
use Rattle.plan.specs.Order.{shape_at, wanted_at, wanteds}
use Rattle.plan.specs.Plans.{table_of, plan_shapes, plan_wants, wanted_in, aim_at, open_at, RowIs, sent_to}
use Rattle.shifting.specs.Orders.{bits_from, order_at, orders_from}
use Rattle.shifting.specs.Feeding.{laid, StaysFrom, row_bits_of, row_mask, kept_cells, cells_of}
use Rattle.shifting.specs.Passes.{plan_orders, string_of, sieve_of, trues}
use Rattle.shifting.proofs.Midway.{Midway}
use Rattle.shifting.proofs.Rows.{length_bits_from, stays_set}

-- What is left of a string and of a sieve at number n, where the depth r is in reach and the bits of n begin at `at`.
abbrev pub strung : Plan → ℕ → List Bool → ℕ → ℕ → ℕ → List Bool
strung p pass row r at n =
    let ss = plan_shapes p n in
    let ws = plan_wants p n in
    let ls = opened p.depth pass ss ws in
    pick (on_path r ss ls) (parts ss (aims p.depth pass ss ws) ls (orders_from p.wanted (table_of p) row at n))

abbrev pub sieved : Plan → ℕ → List Bool → ℕ → ℕ → ℕ → List Bool
sieved p pass row r at n =
    let ss = plan_shapes p n in
    let ls = opened p.depth pass ss (plan_wants p n) in
    pick (on_path r ss ls) (masks ss ls (orders_from p.wanted (table_of p) row at n))

asks_order : (w : Wanted) (rs : List Record) (row : List Bool) (at n : ℕ) → asks (order_at w rs row at n) ≡ wanted_at w rs n
asks_order w rs row at n = step (wanted_at w rs n) (numbered rs n).write (bits_from row at (numbered rs n).length)
  where
    step : (a b : Bool) (bs : List Bool) → asks (cond a (cond b (write bs) read) none) ≡ a
    step true true bs = refl
    step true false bs = refl
    step false b bs = refl

pub asks_orders : (w : Wanted) (rs : List Record) (row : List Bool) (at n : ℕ) → map asks (orders_from w rs row at n) ≡ wanteds w rs n
asks_orders w rs row at zero = refl
asks_orders w rs row at (suc n) = ap₂ ◌∷◌ (asks_order w rs row at (suc n)) (asks_orders w rs row (at + sent_to rs (suc n)) n)

pub string_strung : (p : Plan) (row : List Bool) (pass : ℕ) → string_of p row pass ≡ strung p pass row 1 0 (length (table_of p))
string_strung p row pass =
    let n = length (table_of p) in
    let ss = plan_shapes p n in
    ap (λ (ws : List Bool). pick (on_path 1 ss (opened p.depth pass ss ws)) (parts ss (aims p.depth pass ss ws) (opened p.depth pass ss ws) (plan_orders p row)))
    (asks_orders p.wanted (table_of p) row 0 n)

pub sieve_sieved : (p : Plan) (row : List Bool) (pass : ℕ) → sieve_of p row pass ≡ sieved p pass row 1 0 (length (table_of p))
sieve_sieved p row pass =
    let n = length (table_of p) in
    let ss = plan_shapes p n in
    ap (λ (ws : List Bool). pick (on_path 1 ss (opened p.depth pass ss ws)) (masks ss (opened p.depth pass ss ws) (plan_orders p row)))
    (asks_orders p.wanted (table_of p) row 0 n)

module _ (p : Plan) (pass : ℕ) (row : List Bool) (r at k : ℕ) where
  abbrev o : Order
  o = order_at p.wanted (table_of p) row at (suc k)

  abbrev s : Shape
  s = shape_at (table_of p) (suc k)

  -- a SIB that is on the path, and one that is not
  pub strung_on : leb (shape_at (table_of p) (suc k)).depth r ≡ true
      → strung p pass row r at (suc k) ≡ part s (aim_at p pass (suc k)) (open_at p pass (suc k)) o ++ strung p pass row (reach_after r s (open_at p pass (suc k))) (at + sent_to (table_of p) (suc k)) k
  strung_on e = rw e

  pub strung_off : leb (shape_at (table_of p) (suc k)).depth r ≡ false → strung p pass row r at (suc k) ≡ strung p pass row r (at + sent_to (table_of p) (suc k)) k
  strung_off e = rw e

  pub sieved_on : leb (shape_at (table_of p) (suc k)).depth r ≡ true
      → sieved p pass row r at (suc k) ≡ mask s (open_at p pass (suc k)) o ++ sieved p pass row (reach_after r s (open_at p pass (suc k))) (at + sent_to (table_of p) (suc k)) k
  sieved_on e = rw e

  pub sieved_off : leb (shape_at (table_of p) (suc k)).depth r ≡ false → sieved p pass row r at (suc k) ≡ sieved p pass row r (at + sent_to (table_of p) (suc k)) k
  sieved_off e = rw e

-- A visit shifts what its number's part of the string has, and keeps what its part of the sieve marks.
module _ (p : Plan) (pass : ℕ) (row : List Bool) (at n : ℕ) where
  ordered : (b : Bool) → wanted_in p n ≡ true → (numbered (table_of p) n).write ≡ b → order_at p.wanted (table_of p) row at n ≡ cond b (write (bits_from row at (numbered (table_of p) n).length)) read
  ordered b e w =
      let t : wanted_at p.wanted (table_of p) n ≡ true = (and_parts (wanted_at p.wanted (table_of p) n) _ e).0 in
      ap₂ (λ (x y : Bool). cond x (cond y (write (bits_from row at (numbered (table_of p) n).length)) read) none) t w

  open_asked : (open_at p pass n && wanted (shape_at (table_of p) n) (asks (order_at p.wanted (table_of p) row at n))) ≡ (open_at p pass n && wanted_in p n)
  open_asked = ap (λ (a : Bool). open_at p pass n && wanted (shape_at (table_of p) n) a) (asks_order p.wanted (table_of p) row at n)

  pub row_part : (v : Row) → RowIs p pass n v
      → cond (open_at p pass n && wanted (shape_at (table_of p) n) (asks (order_at p.wanted (table_of p) row at n))) (word (shape_at (table_of p) n) (order_at p.wanted (table_of p) row at n)) []
      ≡ row_bits_of v row at
  row_part Hidden h = ap (λ (b : Bool). cond b (word (shape_at (table_of p) n) (order_at p.wanted (table_of p) row at n)) []) (open_asked ∙ h)
  row_part (Read cells) h =
      ap₂ (λ (b : Bool) (o : Order). cond b (word (shape_at (table_of p) n) o) []) (open_asked ∙ h.0) (ordered false (and_parts (open_at p pass n) _ h.0).1 h.1)
      ∙ ap (λ (k : ℕ). replicate k true) (sym h.2)
  row_part (Write cells) h =
      ap₂ (λ (b : Bool) (o : Order). cond b (word (shape_at (table_of p) n) o) []) (open_asked ∙ h.0) (ordered true (and_parts (open_at p pass n) _ h.0).1 h.1)
      ∙ ap (bits_from row at) (sym h.2)

  pub mask_part : (v : Row) → RowIs p pass n v
      → cond (open_at p pass n && wanted (shape_at (table_of p) n) (asks (order_at p.wanted (table_of p) row at n))) (replicate (shape_at (table_of p) n).cells (reads (order_at p.wanted (table_of p) row at n))) []
      ≡ row_mask v
  mask_part Hidden h = ap (λ (b : Bool). cond b (replicate (shape_at (table_of p) n).cells (reads (order_at p.wanted (table_of p) row at n))) []) (open_asked ∙ h)
  mask_part (Read cells) h =
      ap₂ (λ (b : Bool) (o : Order). cond b (replicate (shape_at (table_of p) n).cells (reads o)) []) (open_asked ∙ h.0) (ordered false (and_parts (open_at p pass n) _ h.0).1 h.1)
      ∙ ap (λ (k : ℕ). replicate k true) (sym h.2)
  mask_part (Write cells) h =
      ap₂ (λ (b : Bool) (o : Order). cond b (replicate (shape_at (table_of p) n).cells (reads o)) []) (open_asked ∙ h.0) (ordered true (and_parts (open_at p pass n) _ h.0).1 h.1)
      ∙ ap (λ (k : ℕ). replicate k false) (sym h.2)

  pub cells_short : (v : Row) → RowIs p pass n v → (numbered (table_of p) n).length ≤ 256 → cells_of v ≤ 256
  cells_short Hidden h l = omega arith
  cells_short (Read cells) h l = omega (arith, h.2)
  cells_short (Write cells) h l = omega (arith, h.2)

trues_all : (k : ℕ) → trues (replicate k true) ≡ k
trues_all zero = refl
trues_all (suc k) = ap suc (trues_all k)

trues_none : (k : ℕ) → trues (replicate k false) ≡ 0
trues_none zero = refl
trues_none (suc k) = trues_none k

pub trues_append : (ms ns : List Bool) → trues (ms ++ ns) ≡ trues ms + trues ns
trues_append [] ns = sym (zero-add (trues ns))
trues_append (true ∷ ms) ns = let i = trues_append ms ns in omega arith
trues_append (false ∷ ms) ns = trues_append ms ns

pub trues_row : (v : Row) → trues (row_mask v) ≡ kept_cells v
trues_row Hidden = refl
trues_row (Read cells) = trues_all cells
trues_row (Write cells) = trues_none cells

pub kept_short : (v : Row) → kept_cells v ≤ cells_of v
kept_short Hidden = omega arith
kept_short (Read cells) = omega arith
kept_short (Write cells) = omega arith

pub length_row_mask : (v : Row) (row : List Bool) (at : ℕ) → length (row_mask v) ≡ length (row_bits_of v row at)
length_row_mask Hidden row at = refl
length_row_mask (Read cells) row at = refl
length_row_mask (Write cells) row at = length-replicate cells false ∙ sym (length_bits_from row at cells)

pub length_sift : (ms bs : List Bool) → length ms ≡ length bs → length (sift ms bs) ≡ trues ms
length_sift [] [] e = refl
length_sift [] (b ∷ bs) e = refl
length_sift (m ∷ ms) [] e = absurd (omega (arith, e))
length_sift (true ∷ ms) (b ∷ bs) e = ap suc (length_sift ms bs (omega (arith, e)))
length_sift (false ∷ ms) (b ∷ bs) e = length_sift ms bs (omega (arith, e))

pub laid_append : (row : List Bool) (at : ℕ) (xs ys : List Bool) → laid row at (xs ++ ys) ≡ laid (laid row at xs) (at + length xs) ys
laid_append row at [] ys = ap (λ (j : ℕ). laid row j ys) (sym (add-zero at))
laid_append row at (x ∷ xs) ys =
    let e : suc at + length xs ≡ at + suc (length xs) = omega arith in
    laid_append (set row at x) (suc at) xs ys ∙ ap (λ (j : ℕ). laid (laid (set row at x) (suc at) xs) j ys) e

pub stays_laid : (end at : ℕ) (row₀ row bs : List Bool) → at + length bs ≤ end → StaysFrom end row₀ row → StaysFrom end row₀ (laid row at bs)
stays_laid end at row₀ row [] h s = s
stays_laid end at row₀ row (b ∷ bs) h s = stays_laid end (suc at) row₀ (set row at b) bs (omega arith) (stays_set end at row₀ row b (omega arith) s)

-- At number n: `from` and `to` are the places, in bits, of the next sent and the next kept bit.
pub record Walking (p : Plan) (pass : ℕ) (row : List Bool) (b x : Network) (reach n from to : ℕ) (body₀ body : List Bool) : Type 0 where
  pub low : n ≤ length (table_of p)
  pub near_from : from + 256 * n ≤ 256 * length (table_of p)
  pub near_to : to + 256 * n ≤ 256 * length (table_of p)
  pub midway : Midway b x (strung p pass row 1 0 (length (table_of p))) (strung p pass row reach from n)
  pub kept :
      laid body to (sift (sieved p pass row reach from n) (outs x.sites (strung p pass row reach from n)))
      ≡ laid body₀ 0 (sift (sieved p pass row 1 0 (length (table_of p))) (outs b.sites (strung p pass row 1 0 (length (table_of p)))))
  pub total : to + trues (sieved p pass row reach from n) ≡ trues (sieved p pass row 1 0 (length (table_of p)))
  pub stays : StaysFrom (trues (sieved p pass row 1 0 (length (table_of p)))) body₀ body
