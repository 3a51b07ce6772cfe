-- Bits put onto the path, shifted through it, and a whole pass.
use Rattle.std.proofs.Common.{◌≡◌, Bool, List, [], ◌∷◌, ◌++◌, length, sym, refl, ap, ◌∙◌, ap₂}
use Rattle.scan.specs.Network.{Site, build_of, latch_of, held_of, shown}
use Rattle.scan.specs.Path.{on, path_given, path_flaws, path_offered, path, SoundPath}
use Rattle.scan.specs.Moves.{first, moved, put, each, fill, capture, shift, updated, update, feed, outs}
use Rattle.scan.specs.Laws.{WhatIsPutIsShown, SoundPathIsAQueue, PassReadsAndWrites}
use Rattle.scan.proofs.Rows.{length_shown, shown_sound, length_moved, row_outs, row_after, row_queue, row_exchange}
use Rattle.scan.proofs.Fill.{map_spread, on_fill, path_fill, fill_fill, fill_given, capture_is_fill, update_fill}
use Rattle.scan.proofs.Sizes.{length_path_given, length_path_offered, length_path}

pub fill_law : WhatIsPutIsShown
fill_law ss bs f e =
    let p = path_fill ss bs (e ∙ length_path ss f) in
    record {
      shows = p;
      sound = λ free. p ∙ shown_sound (path_flaws ss) bs free;
      builds = map_spread build_of put (λ _ _. refl) (on ss) ss bs;
      latches = map_spread latch_of put (λ _ _. refl) (on ss) ss bs;
      held = map_spread held_of put (λ _ _. refl) (on ss) ss bs;
      length = ap length p ∙ length_shown (path_flaws ss) bs ∙ e;
    }

length_step : (ss : List Site) (xs : List Bool) (b : Bool) → length xs ≡ length (path_flaws ss) → length (moved (shown (path_flaws ss) xs) b) ≡ length (path_flaws ss)
length_step ss xs b e = length_moved (shown (path_flaws ss) xs) b ∙ length_shown (path_flaws ss) xs ∙ e

-- A shift of a fill is a fill.
pub shift_fill : (ss : List Site) (xs : List Bool) (b : Bool) → length xs ≡ length (path_flaws ss)
    → shift (fill (on ss) ss xs) b ≡ fill (on ss) ss (moved (shown (path_flaws ss) xs) b)
shift_fill ss xs b e =
    ap₂ (λ (ms ys : List Bool). fill ms (fill (on ss) ss xs) (moved ys b)) (on_fill (on ss) ss xs) (path_fill ss xs e)
    ∙ fill_fill (on ss) ss xs (moved (shown (path_flaws ss) xs) b) (length_step ss xs b e)

pub outs_fill : (ss : List Site) (xs bs : List Bool) → length xs ≡ length (path_flaws ss)
    → outs (fill (on ss) ss xs) bs ≡ row_outs (path_flaws ss) (shown (path_flaws ss) xs) bs
unfolding row_outs
outs_fill ss xs [] e = refl
outs_fill ss xs (b ∷ bs) e =
    ap₂ ◌∷◌ (ap (λ (ys : List Bool). first ys b) (path_fill ss xs e))
    (ap (λ (tt : List Site). outs tt bs) (shift_fill ss xs b e) ∙ outs_fill ss (moved (shown (path_flaws ss) xs) b) bs (length_step ss xs b e))

pub path_feed_fill : (ss : List Site) (xs bs : List Bool) → length xs ≡ length (path_flaws ss)
    → path (feed (fill (on ss) ss xs) bs) ≡ row_after (path_flaws ss) (shown (path_flaws ss) xs) bs
unfolding row_after
path_feed_fill ss xs [] e = path_fill ss xs e
path_feed_fill ss xs (b ∷ bs) e =
    ap (λ (tt : List Site). path (feed tt bs)) (shift_fill ss xs b e) ∙ path_feed_fill ss (moved (shown (path_flaws ss) xs) b) bs (length_step ss xs b e)

pub feed_fill : (ss : List Site) (xs bs : List Bool) → SoundPath ss → length xs ≡ length (path_flaws ss)
    → feed (fill (on ss) ss xs) bs ≡ fill (on ss) ss (row_after (path_flaws ss) xs bs)
unfolding row_after
feed_fill ss xs [] f e = refl
feed_fill ss xs (b ∷ bs) f e =
    ap (λ (tt : List Site). feed tt bs) (shift_fill ss xs b e)
    ∙ feed_fill ss (moved (shown (path_flaws ss) xs) b) bs f (length_step ss xs b e)
    ∙ ap (λ (ys : List Bool). fill (on ss) ss (row_after (path_flaws ss) ys bs))
    (ap (λ (ys : List Bool). moved ys b) (shown_sound (path_flaws ss) xs f) ∙ sym (shown_sound (path_flaws ss) (moved xs b) f))

pub queue_law : SoundPathIsAQueue
queue_law ss bs f free =
    let same = sym (fill_given (on ss) ss f) in
    let e = length_path_given ss f in
    ap₂ ◌++◌
    (ap (λ (tt : List Site). outs tt bs) same ∙ outs_fill ss (path_given ss) bs e)
    (ap (λ (tt : List Site). path (feed tt bs)) same ∙ path_feed_fill ss (path_given ss) bs e)
    ∙ row_queue (path_flaws ss) (path ss) bs free

pub pass_law : PassReadsAndWrites
pass_law ss bs f free e =
    let ms = on ss in
    let fs = path_flaws ss in
    let os = path_offered ss in
    let k = length_path_offered ss f in
    let taken = capture_is_fill ss f in
    let whole = row_exchange fs os bs free (e ∙ length_path ss f ∙ sym k) in
    let fed : feed (capture ss) bs ≡ fill ms ss bs = ap (λ (tt : List Site). feed tt bs) taken ∙ feed_fill ss os bs free k ∙ ap (fill ms ss) whole.1 in
    record {
      read = ap (λ (tt : List Site). outs tt bs) taken ∙ outs_fill ss os bs k ∙ ap (λ (ys : List Bool). row_outs fs ys bs) (shown_sound fs os free) ∙ whole.0;
      wrote = ap update fed ∙ ap (λ (ns : List Bool). each updated ns (fill ms ss bs)) (on_fill ms ss bs) ∙ update_fill ms ss bs free;
    }
