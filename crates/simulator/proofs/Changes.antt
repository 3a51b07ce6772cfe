-- A loop that changes one site after the other.
use Rattle.std.proofs.Common.{◌≡◌, ℕ, ◌≤◌, List, [], ◌++◌, length, take, drop, sym, ap, ◌∙◌}
use Rattle.std.proofs.lemmas.List.{append-nil, take_all, drop_all}
use Rattle.scan.specs.Network as model
use Rattle.simulator.specs.declared.site.Site.{Site}
use Rattle.simulator.specs.Meaning.{meanings}

abbrev Change : Type 0
Change = List model.Site → List model.Site

-- After i sites: f of the rest is still to come, and makes the whole all.
pub record Changed (f : Change) (items : List Site) (i : ℕ) (all : List model.Site) : Type 0 where
  pub sites : meanings (take i items) ++ f (meanings (drop i items)) ≡ all

pub changed_all : (f : Change) (items : List Site) (i : ℕ) {all : List model.Site} → Changed f items i all → length items ≤ i → f [] ≡ [] → meanings items ≡ all
changed_all f items i w h e =
    sym (append-nil (meanings items)) ∙ ap (λ (ms : List model.Site). meanings items ++ ms) (sym e) ∙ rw (take_all i items h, drop_all i items h) at w.sites
