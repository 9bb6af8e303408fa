use Rattle.capture.specs.Posts.{post}
use Rattle.exchange.proofs.Leading.{law_of_books}
use Rattle.exchange.proofs.law.law_of_books.Goals as goal

pub returns : goal.returns
returns g c =
    law_of_books
    (record {
      order = g.met.T.PartialOrder.order;
      joins = g.met.T.Lattice.joins;
      starts = g.met.T.Timestamp.least;
      data_same = g.met.D.Same.exact;
      amounts_same = g.met.R.Same.exact;
    })
    (post g.P.Writer.taken g.P.Writer.ready g.P.Writer.committed) (post g.Q.Writer.taken g.Q.Writer.ready g.Q.Writer.committed)
