-- The configuration of an AVC stream.
use Rattle.std.proofs.Common.{◌≡◌, ℕ, suc, ◌+◌, ◌%◌, ◌<◌, ◌≤◌, Bool, true, false, List, length, take, drop, refl, sym, ap, ◌∙◌, arith, Option, None, Some, Ok, Err}
use Rattle.std.specs.Prelude.{nat_lt, is_some, slice_index, if◌then◌else◌, ◌==◌, not}
use Rattle.std.proofs.lemmas.Bool.Decides.{nat_tests}
use Rattle.rmx_media.specs.declared.config.ConfigFault.TheVariants.{Short, Version}
use Rattle.rmx_media.specs.declared.avc.AvcConfig.{AvcConfig}
use Rattle.rmx_media.specs.Bits.{number_of}
use Rattle.rmx_media.specs.Avc.{Run, run_of, with_set, rest_alone, sets_in, read_as, avc_config, sets_left}

not_short : (m n : ℕ) → nat_lt m n ≡ false → n ≤ m
not_short m n h = grind (arith, nat_tests)

is_short : (m n : ℕ) → m < n → nat_lt m n ≡ true
is_short m n h = grind (arith, nat_tests)

is_long : (m n : ℕ) → n ≤ m → nat_lt m n ≡ false
is_long m n h = grind (arith, nat_tests)

rest_with : (set : List ℕ) (run : Option Run) → rest_alone (with_set set run) ≡ rest_alone run
rest_with set None = refl
rest_with set (Some run) = refl

-- what follows several sets follows all but the first
pub rest_more : (m n : ℕ) (bytes : List ℕ) → m ≡ suc n → 2 + number_of (take 2 bytes) ≤ length bytes
    → rest_alone (run_of m bytes) ≡ rest_alone (run_of n (drop (2 + number_of (take 2 bytes)) bytes))
rest_more m n bytes e h =
    ap (λ k. rest_alone (run_of k bytes)) e
    ∙ ap (λ (t : Bool). rest_alone (if t then None else with_set (take (number_of (take 2 bytes)) (drop 2 bytes)) (run_of n (drop (2 + number_of (take 2 bytes)) bytes))))
    (is_long (length bytes) (2 + number_of (take 2 bytes)) h)
    ∙ rest_with (take (number_of (take 2 bytes)) (drop 2 bytes)) (run_of n (drop (2 + number_of (take 2 bytes)) bytes))

-- a set that is cut off
pub rest_cut : (m n : ℕ) (bytes : List ℕ) → m ≡ suc n → length bytes < 2 + number_of (take 2 bytes) → rest_alone (run_of m bytes) ≡ None
rest_cut m n bytes e h =
    ap (λ k. rest_alone (run_of k bytes)) e
    ∙ ap (λ (t : Bool). rest_alone (if t then None else with_set (take (number_of (take 2 bytes)) (drop 2 bytes)) (run_of n (drop (2 + number_of (take 2 bytes)) bytes))))
    (is_short (length bytes) (2 + number_of (take 2 bytes)) h)

pub rest_none : (m : ℕ) (bytes : List ℕ) → m ≡ 0 → rest_alone (run_of m bytes) ≡ Some bytes
rest_none m bytes e = ap (λ k. rest_alone (run_of k bytes)) e

-- of what is read
pub record Read (config : AvcConfig) : Type 0 where
  pub sets : is_some (sets_in config.raw) ≡ true
  pub size : config.length_size ≡ slice_index config.raw 4 % 4 + 1

read_by : (short other : Bool) (raw : List ℕ) (sets : Option (List (List ℕ))) (config : AvcConfig)
    → (if short then Err Short else if other then Err Version else read_as raw sets) ≡ Ok config
    → (is_some sets ≡ true) × (slice_index raw 4 % 4 + 1 ≡ config.length_size)
read_by true other raw sets config h = cc
read_by false true raw sets config h = cc
read_by false false raw None config h = cc
read_by false false raw (Some sets) config h = (refl, cc)

pub read : (config : AvcConfig) → avc_config config.raw ≡ Ok config → Read config
unfolding avc_config
read config h =
    let facts : (is_some (sets_in config.raw) ≡ true) × (slice_index config.raw 4 % 4 + 1 ≡ config.length_size) =
    read_by (nat_lt (length config.raw) 1) (not (slice_index config.raw 0 == 1)) config.raw (sets_in config.raw) config h in
    record { sets = facts.0; size = sym facts.1 }

-- the size of length fields is from 1 to 4
pub length_size : (config : AvcConfig) → avc_config config.raw ≡ Ok config → (1 ≤ config.length_size) × (config.length_size ≤ 4)
length_size config h =
    let size : config.length_size ≡ slice_index config.raw 4 % 4 + 1 = (read config h).size in
    omega arith

-- the parts in front of the sets
pub record Whole (raw : List ℕ) : Type 0 where
  pub long : 6 ≤ length raw
  pub sets : is_some (sets_left false (slice_index raw 5 % 32) (drop 6 raw)) ≡ true
  pub same : sets_in raw ≡ sets_left false (slice_index raw 5 % 32) (drop 6 raw)

whole_by : (short : Bool) (sets : Option (List (List ℕ))) → is_some (if short then None else sets) ≡ true → (short ≡ false) × (is_some sets ≡ true) × ((if short then None else sets) ≡ sets)
whole_by true sets h = cc
whole_by false sets h = (refl, h, refl)

pub whole : (raw : List ℕ) → is_some (sets_in raw) ≡ true → Whole raw
unfolding sets_in
whole raw h =
    let by : (nat_lt (length raw) 6 ≡ false) × (is_some (sets_left false (slice_index raw 5 % 32) (drop 6 raw)) ≡ true)
    × ((if nat_lt (length raw) 6 then None else sets_left false (slice_index raw 5 % 32) (drop 6 raw)) ≡ sets_left false (slice_index raw 5 % 32) (drop 6 raw)) =
    whole_by (nat_lt (length raw) 6) (sets_left false (slice_index raw 5 % 32) (drop 6 raw)) h in
    record { long = not_short (length raw) 6 by.0; sets = by.1; same = by.2 }
