use Rattle.frontier.proofs.Adding.{rotated_front, rotated_rest}
use Rattle.frontier.proofs.counts.remove_at.Goals as goal

pub returns : goal.returns
returns g c =
    record {
      front = rotated_front c.args.table.now c.rotate_left.new.self c.args.at c.args.len c.requires.0 c.requires.1 c.rotate_left.ensures.after;
      rest = rotated_rest c.args.table.now c.rotate_left.new.self c.args.at c.args.len c.requires.0 c.requires.1 c.rotate_left.ensures.len;
    }
