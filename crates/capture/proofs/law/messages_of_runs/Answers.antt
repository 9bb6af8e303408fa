use Rattle.capture.specs.Posts.{post}
use Rattle.capture.proofs.MadeWell.{messages_well_made}
use Rattle.capture.proofs.law.messages_of_runs.Goals as goal

pub returns : goal.returns
returns g c =
    messages_well_made
    (record {
      order = g.met.T.PartialOrder.order;
      joins = g.met.T.Lattice.joins;
      starts = g.met.T.Timestamp.least;
      data_same = g.met.D.Same.exact;
      amounts_same = g.met.R.Same.exact;
    })
    (post g.P.Writer.taken g.P.Writer.ready g.P.Writer.committed) (post g.Q.Writer.taken g.Q.Writer.ready g.Q.Writer.committed)
