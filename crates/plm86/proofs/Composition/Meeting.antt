-- Of a checked program: the code tracks its rests, and the instructions follow the code.
use Rattle.plm_decl.specs.Placement.{sizes_of}
use Rattle.plm_type.specs.Programs.{main_tree, procedures_of}
use Rattle.lower.specs.Lowering.{vectors_of}
use Rattle.plm86.specs.Inner.Images.{LayersMeet}
use Rattle.plm86.proofs.Composition.Counting.{counted}
use Rattle.plm86.proofs.Composition.Tracking.{followed}

pub joined : LayersMeet
joined program names c x rom tracks well_formed runs enters follow unserved registers typed lowered within placement is selected =
    let well = well_formed program names typed in
    let tracking = tracks (sizes_of names) (procedures_of names) (vectors_of names) program.order.items (main_tree names) well typed.order in
    let room = counted names c x unserved registers enters is lowered (runs program names typed well) within in
    let follows = follow x selected (λ a small. room.of_main a) (λ v a small. room.of_vectors v a) in
    record { most = tracking.0; is_followed = followed names c x rom enters is lowered placement tracking follows }
