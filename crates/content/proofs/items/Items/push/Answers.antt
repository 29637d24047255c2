-- One item more, in the first unused place.
use Rattle.content.proofs.Places.{pushed_places}
use Rattle.content.proofs.items.Items.push.Goals as goal

pub returns : goal.returns
returns c =
    let a = c.args in
    pushed_places a.self.now a.item c.requires.0 c.requires.1
