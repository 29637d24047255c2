-- What is written reads back as the same fields.
use Prim.Native.Nat.{ℕ}
use mathlib.Core.Path.{◌≡◌, refl, sym, ap, ◌∙◌}
use mathlib.Core.Bool.{Bool, true, false}
use mathlib.Core.List.{List}
use Rattle.std.specs.Prelude.{Result, Ok}
use Rattle.refusal.specs.declared.Refusal.{Refusal}
use Rattle.bits.specs.Bits.{bits, val}
use Rattle.bits.specs.Fields.{size, unpack, pack, fits}
use Rattle.bits.proofs.Choice.{chosen, passed_over}
use Rattle.bits.proofs.Value.{bits-val}
use Rattle.bits.proofs.Formats.{unpack-bits, unpack-pack, length-pack}
use Rattle.system.specs.declared.System.{System}
use Rattle.system.specs.declared.System.TheVariants.{Table, Service}
use Rattle.system.specs.Format.{variant_in, table_format, service_format}
use Rattle.system.specs.Read.{system_of, system_by}
use Rattle.system.specs.Write.{word_of, written, table_values, service_values}

word-of : (ws vs : List ℕ) (n : ℕ) (t : Bool) → fits ws vs ≡ t → word_of ws vs ≡ Ok n → (fits ws vs ≡ true) × (val (pack ws vs) ≡ n)
word-of ws vs n true e h = let k : ◌≡◌ {A = Result ℕ Refusal} (Ok (val (pack ws vs))) (Ok n) = sym (chosen _ _ _ e) ∙ h in (e, cc)
word-of ws vs n false e h = absurd (let k = sym (passed_over _ _ _ e) ∙ h in cc)

-- a written word has the fields that were written
fields_back : (ws vs : List ℕ) → size ws ≡ 16 → (n : ℕ) → word_of ws vs ≡ Ok n → unpack ws (bits 16 n) ≡ vs
fields_back ws vs e n h =
    let got = word-of ws vs n _ refl h in
    ap (λ (m : ℕ). unpack ws (bits 16 m)) (sym got.1)
    ∙ ap (unpack ws) (bits-val (pack ws vs) 16 (length-pack ws vs got.0 ∙ e))
    ∙ unpack-pack ws vs got.0

-- both formats begin with the variant
same_variant : (n : ℕ) → variant_in (unpack table_format (bits 16 n)) ≡ variant_in (unpack service_format (bits 16 n))
same_variant n = rw (unpack-bits table_format, unpack-bits service_format)

pub write_read : (s : System) (n : ℕ) → written s ≡ Ok n → system_of n ≡ Ok s
unfolding written system_of system_by
write_read (Table ltn afi mode i m r u) n h = rw (fields_back table_format (table_values ltn afi mode i m r u) refl n h)
write_read (Service gap sid ta tw td) n h =
    let back = fields_back service_format (service_values gap sid ta tw td) refl n h in
    rw (same_variant n, back)
