-- The FIG and the data unit that the worked cases speak of (document 01, "Worked words").
use Rattle.std.specs.Prelude.{ℕ, List, [], ◌∷◌, pos}
use Rattle.fig.specs.declared.Fig.{Fig}
use Rattle.drm.specs.declared.DataUnit.{DataUnit}

-- words of 37 bits for TCId 1
abbrev pub fig1 : Fig
fig1 = record { d1 = 0; tcid = 1 }

-- the FIG of the worked pair
abbrev pub pair_fig : List ℕ
pair_fig = 0xAB ∷ 0x09 ∷ 0x14 ∷ 0x4C ∷ 0x88 ∷ 0x0F ∷ 0xA0 ∷ 0x90 ∷ 0xD4 ∷ 0x08 ∷ 0x00 ∷ 0x00 ∷ []

-- a data unit with TMCHI 0 and Short ID 0
abbrev pub bare : DataUnit
bare = record { tmchi = 0; id = 0; services = 0; country = 0; ecc = 0; lto = pos 0; system = 0; first = 0; second = 0; third = 0 }
