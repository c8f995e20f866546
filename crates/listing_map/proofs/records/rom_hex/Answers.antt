use Rattle.std.proofs.Common.{arith}
use Rattle.listing_map.proofs.Said.{rom_says}
use Rattle.listing_map.proofs.records.rom_hex.Goals as goal

pub returns-in-Ok-clause-says : goal.returns-in-Ok-clause-says
returns-in-Ok-clause-says g c = λ fits. rom_says c.args.rom.now fits (λ i. omega (arith, c.type_inv.rom i))

pub returns-in-Err-clause-says : goal.returns-in-Err-clause-says
returns-in-Err-clause-says g c = λ fits. rom_says c.args.rom.now fits (λ i. omega (arith, c.type_inv.rom i))
