-- A pass from number to number: where it begins, what a number adds, and where it ends.
use Rattle.std.proofs.Common.{◌≡◌, ℕ, zero, suc, ◌+◌, ◌-◌, ◌%◌, ◌^◌, ◌<◌, ◌≤◌, Bool, true, false, cond, ◌&&◌, leb, List, ◌∷◌, ◌++◌, length, Ok, Err, sym, refl, ap, ◌∙◌, subst, ap₂, zero-add, arith}
use Rattle.std.proofs.lemmas.Bool.Decides.{nat_tests}
use Rattle.refusal.specs.declared.Loss.{Loss}
use Rattle.refusal.specs.declared.ScanFault.{ScanFault}
use Rattle.bits.specs.declared.BitPlace.{BitPlace}
use Rattle.bits.specs.Place.{flat}
use Rattle.table.specs.declared.Record.{Record}
use Rattle.table.specs.Marks.{numbered, names_sib}
use Rattle.scan.specs.Network.{Network, rest, scan}
use Rattle.scan.specs.Moves.{capture, feed, outs}
use Rattle.scan.specs.Calls.{Fails, after_capture, after_update}
use Rattle.scan.proofs.Changing.{change_law}
use Rattle.retarget.specs.Shapes.{span}
use Rattle.retarget.specs.Strings.{none, read, write, word, sift}
use Rattle.retarget.specs.Laws.{Apt}
use Rattle.retarget.specs.Wants.{opened}
use Rattle.retarget.proofs.Lengths.{length_string}
use Rattle.retarget.proofs.Gathering.{feed_append, outs_append, sift_append, length_outs}
use Rattle.plan.specs.declared.visit.Visit.{Visit}
use Rattle.plan.specs.declared.wanted.Plan.{Plan}
use Rattle.plan.specs.declared.wanted.Wanted.{Wanted}
use Rattle.plan.specs.Length.{path_span}
use Rattle.plan.specs.Order.{shape_at, shapes, wanted_at}
use Rattle.plan.specs.Plans.{table_of, plan_shapes, Visited, sent_to}
use Rattle.plan.proofs.Lawful.{short_at, table_size}
use Rattle.shifting.specs.Orders.{bits_from, order_at, orders_from}
use Rattle.shifting.specs.Feeding.{fed, laid, StaysFrom, Loses, cells_of, visit_bits, visit_mask, kept_cells, VisitShifts, Room}
use Rattle.shifting.specs.Passes.{PassesTest, PassDoes, plan_orders, string_of, sieve_of, trues}
use Rattle.shifting.proofs.Midway.{Same, Midway, midway_none, midway_all, same_feed, same_more, same_loses, same_fails}
use lib.ListN.{length-replicate}
use Rattle.shifting.proofs.Rows.{length_bits_from}
use Rattle.shifting.proofs.Walking.{Walking, strung, sieved, asks_orders, string_strung, sieve_sieved, strung_on, strung_off, sieved_on, sieved_off, row_part, mask_part, cells_short, trues_append, trues_row, kept_short, length_row_mask, length_sift, laid_append, stays_laid}

-- a capture leaves a network the same but for its cells
same_capture : (n : Network) → Same n (after_capture n)
same_capture n = let k = change_law n.sites false in record { lost = refl; builds = k.captured.builds; latches = k.captured_latches; held = k.captured_held }

pub capture_loses : (can : Loss → Type 0) (n : Network) (e : ScanFault) (m : Network) → n.phase ≡ rest → Fails can rest n e m → Loses can n e m
capture_loses can n e m h f = same_fails can rest n n e m (record { lost = refl; builds = refl; latches = refl; held = refl }) h f

-- what a call loses after the capture, the pass loses
pub pass_loses : (can : Loss → Type 0) (n x : Network) (e : ScanFault) (m : Network) → Same (after_capture n) x → Loses can x e m → Loses can n e m
pass_loses can n x e m s l = same_loses can n x e m (same_more n (after_capture n) x (same_capture n) s) l

-- at the first number, after the capture
pub start : (p : Plan) (pass : ℕ) (row : List Bool) (b : Network) (body : List Bool) → b.phase ≡ scan → Walking p pass row b b 1 (length (table_of p)) 0 0 body body
start p pass row b body h = record {
  low = omega arith;
  near_from = omega arith;
  near_to = omega arith;
  midway = midway_none b (strung p pass row 1 0 (length (table_of p))) h;
  kept = refl;
  total = zero-add (trues (sieved p pass row 1 0 (length (table_of p))));
  stays = λ i l. refl;
}

cond_le : (b : Bool) (x m : ℕ) → x ≤ m → cond b x 0 ≤ m
cond_le true x m h = h
cond_le false x m h = omega arith

short_sent : (rs : List Record) → PassesTest rs → (n : ℕ) → 1 ≤ n → n ≤ length rs → sent_to rs n ≤ 256
short_sent rs t n l h = cond_le (names_sib rs n && ((numbered rs n).chosen && (numbered rs n).write)) (numbered rs n).length 256 (short_at rs t n l h)

-- a number that is not on the path is passed over, and so are the bits that it is sent
pub passed_over : (p : Plan) (pass : ℕ) (row : List Bool) (b x : Network) (r k from to : ℕ) (body₀ body : List Bool) → PassesTest (table_of p)
    → leb (shape_at (table_of p) (suc k)).depth r ≡ false → Walking p pass row b x r (suc k) from to body₀ body → Walking p pass row b x r k (from + sent_to (table_of p) (suc k)) to body₀ body
passed_over p pass row b x r k from to body₀ body t e w =
    let rs = table_of p in
    let low = w.low in
    let few = short_sent rs t (suc k) (omega arith) low in
    let bits = strung_off p pass row r from k e in
    let marks = sieved_off p pass row r from k e in
    record {
      low = omega arith;
      near_from = omega (arith, w.near_from, few);
      near_to = omega (arith, w.near_to);
      midway = subst (Midway b x (strung p pass row 1 0 (length rs))) bits w.midway;
      kept = sym (ap₂ (λ (ms bs : List Bool). laid body to (sift ms (outs x.sites bs))) marks bits) ∙ w.kept;
      total = ap (λ (ms : List Bool). to + trues ms) (sym marks) ∙ w.total;
      stays = w.stays;
    }

-- a SIB on the path is visited
module _ (p : Plan) (pass : ℕ) (row : List Bool) (b x : Network) (r k from : ℕ) (to : BitPlace) (body₀ body : List Bool) (v : Visit) (t : PassesTest (table_of p))
    (seen : Visited p pass r (suc k) v) (w : Walking p pass row b x r (suc k) from (flat to) body₀ body) where
  abbrev left : List Bool
  left = strung p pass row v.reach (from + sent_to (table_of p) (suc k)) k

  abbrev marks : List Bool
  marks = sieved p pass row v.reach (from + sent_to (table_of p) (suc k)) k

  cut : strung p pass row r from (suc k) ≡ visit_bits v row from ++ left
  cut =
      strung_on p pass row r from k seen.near
      ∙ ap₂ ◌++◌ (ap₂ ◌∷◌ (sym seen.bit) (row_part p pass row from (suc k) v.row seen.row))
      (ap (λ (d : ℕ). strung p pass row d (from + sent_to (table_of p) (suc k)) k) (sym seen.reach))

  cut_marks : sieved p pass row r from (suc k) ≡ visit_mask v ++ marks
  cut_marks =
      sieved_on p pass row r from k seen.near
      ∙ ap₂ ◌++◌ (ap (λ (ms : List Bool). false ∷ ms) (mask_part p pass row from (suc k) v.row seen.row))
      (ap (λ (d : ℕ). sieved p pass row d (from + sent_to (table_of p) (suc k)) k) (sym seen.reach))

  few : cells_of v.row ≤ 256
  few = cells_short p pass row from (suc k) v.row seen.row (short_at (table_of p) t (suc k) (omega arith) w.low)

  trues_visit : trues (visit_mask v) ≡ kept_cells v.row
  trues_visit = trues_row v.row

  within : flat to + kept_cells v.row ≤ trues (sieved p pass row 1 0 (length (table_of p)))
  within =
      let all = ap trues cut_marks ∙ trues_append (visit_mask v) marks in
      omega (arith, w.total, all, trues_visit)

  pub visit_stays : (after : List Bool) → StaysFrom (flat to + kept_cells v.row) body after → StaysFrom (trues (sieved p pass row 1 0 (length (table_of p)))) body₀ after
  visit_stays after s i h = s i (omega (arith, within)) ∙ w.stays i h

  pub visited : (can : Loss → Type 0) (m : Network) (next : BitPlace) (after : List Bool)
      → VisitShifts can x (visit_bits v row from) (visit_mask v) (kept_cells v.row) to body (Ok next) m after
      → Walking p pass row b m v.reach k (from + sent_to (table_of p) (suc k)) (flat next) body₀ after
  visited can m next after sh =
      let rs = table_of p in
      let low = w.low in
      let vb = visit_bits v row from in
      let vm = visit_mask v in
      let out = sift vm (outs x.sites vb) in
      let even : length vm ≡ length vb = ap suc (length_row_mask v.row row from) in
      let long : length out ≡ kept_cells v.row = length_sift vm (outs x.sites vb) (even ∙ sym (length_outs x.sites vb)) ∙ trues_visit in
      let sent = short_sent rs t (suc k) (omega arith) low in
      let kept_few = kept_short v.row in
      let whole = strung p pass row 1 0 (length rs) in
      record {
        low = omega arith;
        near_from = omega (arith, w.near_from, sent);
        near_to = omega (arith, w.near_to, sh.2, kept_few, few);
        midway = record {
          phase = ap (λ (n : Network). n.phase) sh.0;
          same = same_more b x m w.midway.same (subst (Same x) (sym sh.0) (same_feed x vb));
          fed = ap (λ (n : Network). feed n.sites left) sh.0 ∙ sym (feed_append x.sites vb left) ∙ ap (feed x.sites) (sym cut) ∙ w.midway.fed;
        };
        kept =
            ap₂ (λ (rows : List Bool) (n : Network). laid rows (flat next) (sift marks (outs n.sites left))) sh.3 sh.0
            ∙ ap (λ (j : ℕ). laid (laid body (flat to) out) j (sift marks (outs (feed x.sites vb) left))) (sh.2 ∙ ap (λ (j : ℕ). flat to + j) (sym long))
            ∙ sym (laid_append body (flat to) out (sift marks (outs (feed x.sites vb) left)))
            ∙ ap (laid body (flat to)) (sym (sift_append vm marks (outs x.sites vb) (outs (feed x.sites vb) left) (even ∙ sym (length_outs x.sites vb))))
            ∙ ap (λ (bs : List Bool). laid body (flat to) (sift (vm ++ marks) bs)) (sym (outs_append x.sites vb left))
            ∙ ap₂ (λ (ms bs : List Bool). laid body (flat to) (sift ms (outs x.sites bs))) (sym cut_marks) (sym cut)
            ∙ w.kept;
        total =
            (let all = ap trues cut_marks ∙ trues_append vm marks in
            omega (arith, w.total, all, trues_visit, sh.2));
        stays = subst (StaysFrom (trues (sieved p pass row 1 0 (length rs))) body₀) (sym sh.3) (stays_laid (trues (sieved p pass row 1 0 (length rs))) (flat to) body₀ body out (omega (arith, within, long)) w.stays);
      }

-- the rows that are sent are as long as their instruments
word_long : (w : Wanted) (rs : List Record) (row : List Bool) (at n : ℕ) → length (word (shape_at rs n) (order_at w rs row at n)) ≡ (shape_at rs n).cells
word_long w rs row at n = by_order (wanted_at w rs n) (numbered rs n).write
  where
    by_order : (a b : Bool) → length (word (shape_at rs n) (cond a (cond b (write (bits_from row at (numbered rs n).length)) read) none)) ≡ (numbered rs n).length
    by_order true true = length_bits_from row at (numbered rs n).length
    by_order true false = length-replicate (numbered rs n).length true
    by_order false b = length-replicate (numbered rs n).length true

apt_orders : (w : Wanted) (rs : List Record) (row : List Bool) (at n : ℕ) → Apt (shapes rs n) (orders_from w rs row at n)
apt_orders w rs row at zero = tt
apt_orders w rs row at (suc n) = (word_long w rs row at (suc n), apt_orders w rs row (at + sent_to rs (suc n)) n)

-- the string of a pass is as long as its path
string_long : (p : Plan) (row : List Bool) (pass : ℕ) → length (string_of p row pass) ≡ path_span p pass
string_long p row pass =
    let n = length (table_of p) in
    length_string p.depth pass (plan_shapes p n) (plan_orders p row) (apt_orders p.wanted (table_of p) row 0 n)
    ∙ ap (λ (ws : List Bool). span 1 (plan_shapes p n) (opened p.depth pass (plan_shapes p n) ws)) (asks_orders p.wanted (table_of p) row 0 n)

-- at the end, after the update
pub finish : (can : Loss → Type 0) (p : Plan) (pass : ℕ) (row : List Bool) (n x m : Network) (r from to shifted : ℕ) (body₀ body : List Bool)
    → Walking p pass row (after_capture n) x r 0 from to body₀ body → m ≡ after_update x → shifted ≡ path_span p pass % 2 ^ 64
    → PassDoes can n (string_of p row pass) (sieve_of p row pass) body₀ (Ok shifted) m body
finish can p pass row n x m r from to shifted body₀ body w e s =
    let bits = string_strung p row pass in
    let marks = sieve_sieved p row pass in
    let all : x ≡ fed (after_capture n) (string_of p row pass) = midway_all (after_capture n) x _ w.midway ∙ ap (fed (after_capture n)) (sym bits) in (
      e ∙ ap after_update all,
      w.kept ∙ sym (ap₂ (λ (ms bs : List Bool). laid body₀ 0 (sift ms (outs (capture n.sites) bs))) marks bits),
      s ∙ ap (λ (j : ℕ). j % 2 ^ 64) (sym (string_long p row pass)),
    )

-- The same by the places of the code, at number n.
abbrev pub Going : Plan → ℕ → List Bool → Network → Network → ℕ → ℕ → BitPlace → BitPlace → List Bool → List Bool → Type 0
Going p pass row b x r n from to body₀ body = (from.place < 8) × (to.place < 8) × Walking p pass row b x r n (flat from) (flat to) body₀ body

module _ (p : Plan) (pass : ℕ) (row : List Bool) (b x : Network) (r n : ℕ) (from to : BitPlace) (body₀ body : List Bool) (t : PassesTest (table_of p)) (h : 1 ≤ n)
    (w : Going p pass row b x r n from to body₀ body) where
  last : n ≡ suc (n - 1)
  last = omega arith

  walk : Walking p pass row b x r (suc (n - 1)) (flat from) (flat to) body₀ body
  walk = subst (λ (j : ℕ). Walking p pass row b x r j (flat from) (flat to) body₀ body) last w.2

  pub few_bits : sent_to (table_of p) n ≤ 256
  few_bits = let low = w.2.low in short_sent (table_of p) t n h low

  -- the place of the next sent bit does not wrap
  pub sent_room : flat from + sent_to (table_of p) n < 2 ^ 64
  sent_room = let size = table_size (table_of p) t in omega (arith, w.2.near_from, size, few_bits, h)

  pub goes_past : (next : BitPlace) → (names_sib (table_of p) n && leb (shape_at (table_of p) n).depth r) ≡ false → (next.place < 8) × (flat next ≡ flat from + sent_to (table_of p) n)
      → Going p pass row b x r (n - 1) next to body₀ body
  goes_past next e f =
      let low = w.2.low in
      let named : names_sib (table_of p) n ≡ true = grind (arith, nat_tests) in
      let off : leb (shape_at (table_of p) n).depth r ≡ false = sym (ap (λ (a : Bool). a && leb (shape_at (table_of p) n).depth r) named) ∙ e in
      let over = passed_over p pass row b x r (n - 1) (flat from) (flat to) body₀ body t (ap (λ (j : ℕ). leb (shape_at (table_of p) j).depth r) (sym last) ∙ off) walk in
      (f.0, w.1, subst (λ (j : ℕ). Walking p pass row b x r (n - 1) j (flat to) body₀ body) (ap (λ (j : ℕ). flat from + sent_to (table_of p) j) (sym last) ∙ sym f.1) over)

  module _ (v : Visit) (seen : Visited p pass r n v) where
    sight : Visited p pass r (suc (n - 1)) v
    sight = subst (λ (j : ℕ). Visited p pass r j v) last seen

    pub room_left : Room from (cells_of v.row) × Room to (cells_of v.row)
    room_left =
        let low = w.2.low in
        let size = table_size (table_of p) t in
        let few = cells_short p pass row (flat from) n v.row seen.row (short_at (table_of p) t n h low) in
        ((w.0, omega (arith, w.2.near_from, size, few, h)), (w.1, omega (arith, w.2.near_to, size, few, h)))

    pub goes_on : (can : Loss → Type 0) (m : Network) (next_from next_to : BitPlace) (after : List Bool)
        → VisitShifts can x (visit_bits v row (flat from)) (visit_mask v) (kept_cells v.row) to body (Ok next_to) m after
        → (next_from.place < 8) × (flat next_from ≡ flat from + sent_to (table_of p) n) → Going p pass row b m v.reach (n - 1) next_from next_to body₀ after
    goes_on can m next_from next_to after sh f =
        let on = visited p pass row b x r (n - 1) (flat from) to body₀ body v t sight walk can m next_to after sh in
        (f.0, sh.1, subst (λ (j : ℕ). Walking p pass row b m v.reach (n - 1) j (flat next_to) body₀ after) (ap (λ (j : ℕ). flat from + sent_to (table_of p) j) (sym last) ∙ sym f.1) on)

    pub breaks_off : (can : Loss → Type 0) (n₀ m : Network) (e : ScanFault) (after : List Bool) → b ≡ after_capture n₀
        → VisitShifts can x (visit_bits v row (flat from)) (visit_mask v) (kept_cells v.row) to body (Err e) m after
        → PassDoes can n₀ (string_of p row pass) (sieve_of p row pass) body₀ (Err e) m after
    breaks_off can n₀ m e after k sh = (
      pass_loses can n₀ x e m (subst (λ (c : Network). Same c x) k w.2.midway.same) sh.0,
      subst (λ (ms : List Bool). StaysFrom (trues ms) body₀ after) (sym (sieve_sieved p row pass)) (visit_stays p pass row b x r (n - 1) (flat from) to body₀ body v t sight walk after sh.1),
    )

-- the update is lost
pub ends_early : (can : Loss → Type 0) (p : Plan) (pass : ℕ) (row : List Bool) (n₀ b x m : Network) (r n : ℕ) (from to : BitPlace) (body₀ body : List Bool) (e : ScanFault)
    → Going p pass row b x r n from to body₀ body → b ≡ after_capture n₀ → Fails can scan x e m → PassDoes can n₀ (string_of p row pass) (sieve_of p row pass) body₀ (Err e) m body
ends_early can p pass row n₀ b x m r n from to body₀ body e w k f = (
  pass_loses can n₀ x e m (subst (λ (c : Network). Same c x) k w.2.midway.same) (same_fails can scan x x e m (record { lost = refl; builds = refl; latches = refl; held = refl }) w.2.midway.phase f),
  subst (λ (ms : List Bool). StaysFrom (trues ms) body₀ body) (sym (sieve_sieved p row pass)) w.2.stays,
)

pub ends : (can : Loss → Type 0) (p : Plan) (pass : ℕ) (row : List Bool) (n₀ b x m : Network) (r n shifted : ℕ) (from to : BitPlace) (body₀ body : List Bool)
    → Going p pass row b x r n from to body₀ body → n < 1 → b ≡ after_capture n₀ → m ≡ after_update x → shifted ≡ path_span p pass % 2 ^ 64
    → PassDoes can n₀ (string_of p row pass) (sieve_of p row pass) body₀ (Ok shifted) m body
ends can p pass row n₀ b x m r n shifted from to body₀ body w h k u s =
    let none : n ≡ 0 = omega arith in
    let walk = subst (λ (c : Network). Walking p pass row c x r n (flat from) (flat to) body₀ body) k w.2 in
    finish can p pass row n₀ x m r (flat from) (flat to) shifted body₀ body (subst (λ (j : ℕ). Walking p pass row (after_capture n₀) x r j (flat from) (flat to) body₀ body) none walk) u s
