use Rattle.sha256.proofs.Turns.{all-started}
use Rattle.sha256.proofs.block.first_sixteen.Goals as goal

pub returns : goal.returns
returns g c k ws h lt l d =
    let d = c.first_turn-v.ensures k ws h lt l d in
    let d = c.first_turn-v-2.ensures k ws h lt l d in
    let d = c.first_turn-v-3.ensures k ws h lt l d in
    let d = c.first_turn-v-4.ensures k ws h lt l d in
    let d = c.first_turn-v-5.ensures k ws h lt l d in
    let d = c.first_turn-v-6.ensures k ws h lt l d in
    let d = c.first_turn-v-7.ensures k ws h lt l d in
    let d = c.first_turn-v-8.ensures k ws h lt l d in
    let d = c.first_turn-v-9.ensures k ws h lt l d in
    let d = c.first_turn-v-10.ensures k ws h lt l d in
    let d = c.first_turn-v-11.ensures k ws h lt l d in
    let d = c.first_turn-v-12.ensures k ws h lt l d in
    let d = c.first_turn-v-13.ensures k ws h lt l d in
    let d = c.first_turn-v-14.ensures k ws h lt l d in
    let d = c.first_turn-v-15.ensures k ws h lt l d in
    let d = c.first_turn-v-16.ensures k ws h lt l d in
    all-started ws h l d
