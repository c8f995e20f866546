use Rattle.std.proofs.Common.{arith}
use Rattle.layout_link.proofs.Coded.{is_code_in_rom}
use Rattle.layout_link.proofs.Worded.{are_words_in_rom}
use Rattle.layout_link.proofs.rom.code_in_rom.Goals as goal

pub returns-clause-code : goal.returns-clause-code
returns-clause-code c = is_code_in_rom c.decoded_spells.ensures c.args.rom.now (λ i. omega (arith, c.type_inv.rom i)) c.requires

pub returns-clause-words : goal.returns-clause-words
returns-clause-words c = are_words_in_rom c.args.rom.now (λ i. omega (arith, c.type_inv.rom i)) c.requires
