use Rattle.std.proofs.Common.{refl}
use Rattle.retarget.proofs.worked_strings.Goals as goal

pub returns : goal.returns
returns c = record {
  flat_depth = refl;
  flat_configures = refl;
  flat_data = refl;
  flat_bits = refl;
  flat_kept = refl;
  flat_held = refl;
  nested_depth = refl;
  nested_first = refl;
  nested_second = refl;
  nested_data = refl;
  nested_bits = refl;
  nested_kept = refl;
  nested_held = refl;
  front_depth = refl;
  front_configures = refl;
  front_data = refl;
  front_bits = refl;
  front_kept = refl;
}
