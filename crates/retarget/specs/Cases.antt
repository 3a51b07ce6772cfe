-- Strings worked out by hand, SIB N first.
use Rattle.std.specs.Prelude.{◌≡◌, ℕ, Bool, true, false, not, List, [], ◌∷◌, ◌++◌, map, replicate}
use Rattle.scan.specs.Network.{sound, Site, held_of}
use Rattle.retarget.specs.Shapes.{shapes_of}
use Rattle.retarget.specs.Wants.{deepest}
use Rattle.retarget.specs.Strings.{Order, none, read, write, asks, string}
use Rattle.retarget.specs.Runs.{passes, shifted, run, kept}

-- an instrument that offers what it holds, inverted
abbrev pub inverting : ℕ → ℕ → List Bool → Site
inverting depth cells held = record {
  build = record { doorway = false; depth = depth; own = sound; flaws = replicate cells sound; offer = map not };
  latch = true;
  cell = true;
  row = replicate cells true;
  held = held;
}

abbrev pub doorway_at : ℕ → Site
doorway_at depth = record { build = record { doorway = true; depth = depth; own = sound; flaws = []; offer = λ bs. bs }; latch = true; cell = false; row = []; held = [] }

-- three of 8 bits at depth 1 that hold zeros
abbrev pub flat : List Site
flat = inverting 1 8 (replicate 8 false) ∷ inverting 1 8 (replicate 8 false) ∷ inverting 1 8 (replicate 8 false) ∷ []

-- 2 with 4 bits behind the doorway 3, 1 with 2 bits at depth 1
abbrev pub nested : List Site
nested = doorway_at 1 ∷ inverting 2 4 (replicate 4 false) ∷ inverting 1 2 (true ∷ false ∷ []) ∷ []

abbrev pub read_3_write_1 : List Order
read_3_write_1 = read ∷ none ∷ write (replicate 8 true) ∷ []

abbrev pub write_2_read_1 : List Order
write_2_read_1 = none ∷ write (true ∷ false ∷ true ∷ false ∷ []) ∷ read ∷ []

abbrev pub read_1 : List Order
read_1 = none ∷ none ∷ read ∷ []

-- a run of its own depth: the string of pass p, all bits that it shifts, what it keeps, what is held after it
abbrev pub depth_of : List Site → List Order → ℕ
depth_of ss os = deepest (shapes_of ss) (map asks os)

abbrev pub string_of : List Site → List Order → ℕ → List Bool
string_of ss os = string (depth_of ss os) (shapes_of ss) os

abbrev pub bits_of : List Site → List Order → ℕ
bits_of ss os = shifted (string_of ss os) (passes (depth_of ss os))

abbrev pub kept_of : List Site → List Order → List Bool
kept_of ss os = kept (depth_of ss os) (shapes_of ss) os ss

abbrev pub held_of_run : List Site → List Order → List (List Bool)
held_of_run ss os = map held_of (run (depth_of ss os) (shapes_of ss) os ss)

pub record WorkedStrings : Type 0 where
  pub flat_depth : depth_of flat read_3_write_1 ≡ 1
  pub flat_configures : string_of flat read_3_write_1 1 ≡ true ∷ false ∷ true ∷ []
  pub flat_data : string_of flat read_3_write_1 2 ≡ (true ∷ replicate 8 true) ++ (false ∷ true ∷ replicate 8 true)
  pub flat_bits : bits_of flat read_3_write_1 ≡ 22
  pub flat_kept : kept_of flat read_3_write_1 ≡ replicate 8 true
  pub flat_held : held_of_run flat read_3_write_1 ≡ replicate 8 true ∷ replicate 8 false ∷ replicate 8 true ∷ []
  pub nested_depth : depth_of nested write_2_read_1 ≡ 2
  pub nested_first : string_of nested write_2_read_1 1 ≡ true ∷ false ∷ []
  pub nested_second : string_of nested write_2_read_1 2 ≡ true ∷ true ∷ true ∷ []
  pub nested_data : string_of nested write_2_read_1 3 ≡ true ∷ true ∷ true ∷ false ∷ true ∷ false ∷ true ∷ true ∷ true ∷ []
  pub nested_bits : bits_of nested write_2_read_1 ≡ 14
  pub nested_kept : kept_of nested write_2_read_1 ≡ false ∷ true ∷ []
  pub nested_held : held_of_run nested write_2_read_1 ≡ [] ∷ (true ∷ false ∷ true ∷ false ∷ []) ∷ (true ∷ true ∷ []) ∷ []
  pub front_depth : depth_of nested read_1 ≡ 1
  pub front_configures : string_of nested read_1 1 ≡ false ∷ true ∷ []
  pub front_data : string_of nested read_1 2 ≡ false ∷ true ∷ true ∷ true ∷ []
  pub front_bits : bits_of nested read_1 ≡ 6
  pub front_kept : kept_of nested read_1 ≡ false ∷ true ∷ []
