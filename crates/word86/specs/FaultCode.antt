-- The number of each fault, as a number.
use Rattle.std.specs.Prelude.{ℕ}
use Rattle.word86.specs.declared.number.Number.{Number}
use Rattle.word86.specs.declared.number.Number.TheVariants.{E101, E102, E103, E104, E105, E106, E107, E201, E202, E203, E204, E205, E301, E302, E303, E304, E305, E306, E307, E308, E309, E310, E401, E402, E403, E404, E405, E406, E501, E601, E701, E702, E703, E704, E705, W1}

-- faults come in order of their numbers; the one warning is none
abbrev pub code_of : Number → ℕ
code_of E101 = 101
code_of E102 = 102
code_of E103 = 103
code_of E104 = 104
code_of E105 = 105
code_of E106 = 106
code_of E107 = 107
code_of E201 = 201
code_of E202 = 202
code_of E203 = 203
code_of E204 = 204
code_of E205 = 205
code_of E301 = 301
code_of E302 = 302
code_of E303 = 303
code_of E304 = 304
code_of E305 = 305
code_of E306 = 306
code_of E307 = 307
code_of E308 = 308
code_of E309 = 309
code_of E310 = 310
code_of E401 = 401
code_of E402 = 402
code_of E403 = 403
code_of E404 = 404
code_of E405 = 405
code_of E406 = 406
code_of E501 = 501
code_of E601 = 601
code_of E701 = 701
code_of E702 = 702
code_of E703 = 703
code_of E704 = 704
code_of E705 = 705
code_of W1 = 999
