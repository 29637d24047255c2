-- The units that the rules allow (document 01, "DRM"; source 002, clause 5). That a writer writes just these is `allowed` in
-- proofs/Allowing.antt.
use Rattle.std.specs.Prelude.{ℕ, ◌^◌, ◌≤◌, ◌<◌, ◌≡◌, List, length, pos, nat_abs}
use Rattle.drm.specs.declared.DataUnit.{DataUnit}
use Rattle.drm.specs.Format.{longest}
use Rattle.report.specs.Read.{read_report}
use Rattle.messages.specs.Whole.{Whole}
use Rattle.drm_write.specs.Write.{unit_length}

-- no header: every field after Short ID is 0, and there is a user word
pub record Bare (u : DataUnit) (n : ℕ) : Type 0 where
  pub services : u.services ≡ 0
  pub country : u.country ≡ 0
  pub ecc : u.ecc ≡ 0
  pub lto : u.lto ≡ pos 0
  pub system : u.system ≡ 0
  pub first : u.first ≡ 0
  pub second : u.second ≡ 0
  pub third : u.third ≡ 0
  pub some : 1 ≤ n

-- a header: its fields in their ranges, one to three system words, and 0 for those not in use
pub record Headed (u : DataUnit) : Type 0 where
  pub services : u.services < 2 ^ 4
  pub country : u.country < 2 ^ 4
  pub lto : nat_abs u.lto < 2 ^ 5
  pub some : 1 ≤ u.system
  pub few : u.system ≤ 3
  pub second : u.system < 2 → u.second ≡ 0
  pub third : u.system < 3 → u.third ≡ 0

-- document 01's list of what a writer refuses, turned round
pub record Allowed (u : DataUnit) (ws : List ℕ) : Type 0 where
  pub tmchi : u.tmchi < 2
  pub id : u.id < 2 ^ 4
  pub bare : u.tmchi ≡ 0 → Bare u (length ws)
  pub headed : u.tmchi ≡ 1 → Headed u
  pub bytes : unit_length u (length ws) ≤ longest
  pub whole : Whole read_report ws

-- what the types of the struct say of ECC and the system words: 8 bits, and 16 each
pub record Typed (u : DataUnit) : Type 0 where
  pub ecc : u.ecc < 2 ^ 8
  pub first : u.first < 2 ^ 16
  pub second : u.second < 2 ^ 16
  pub third : u.third < 2 ^ 16
