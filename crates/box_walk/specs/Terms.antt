-- The definitions that longer pages take, from one place.
pub use Rattle.box_images.specs.Answers.{Answers}
pub use Rattle.box_images.specs.Bodies.{IsBody}
pub use Rattle.box_images.specs.Images.{IsImageOfAnswer, IsValidImage, header_at}
pub use Rattle.box_images.specs.declared.images.Image.{Image}
pub use Rattle.box_images.specs.declared.images.Part.{Part}
pub use Rattle.box_steps.specs.Moments.{IsBoxMoment, IsStepOn, image_over, moment_at, next_at, translations_at}
pub use Rattle.box_walk.specs.Arriving.{AreArrivals, end_unless, lets_in}
pub use Rattle.box_walk.specs.Asking.{AnswersStopped, AnswersWord, Asking, asked, asked_by, homes_by, stop_of, stopped_of, whether, word_of}
pub use Rattle.box_walk.specs.Goal.{goal_unless}
pub use Rattle.box_walk.specs.Journeys.{JourneysAreVerdicts, MoreHomesLetMoreThrough, TellsJourney, arrived_at, journey_after, journey_by, journey_of, open_cuts, reached_end, reached_of, toward}
pub use Rattle.box_walk.specs.Laws.{NothingStopsThrough}
pub use Rattle.box_walk.specs.Open.{AnswersJourney, Starting, starting, starting_by}
pub use Rattle.box_walk.specs.Rests.{IsLeftAt, IsRestOn, is_among, rest_of}
pub use Rattle.box_walk.specs.Seeking.{IsRestMissed, IsRestSought, IsWalkMissed, IsWalkSought, MissesNeverArrive, arrives_at}
pub use Rattle.box_walk.specs.Told.{AreRequests, DivideArrival, DivideReply, Tells, TellsWhether, arrival_at, low_reply_hops, reply_of_moment, request_at, word_of_answer, word_of_arrival, word_of_return}
pub use Rattle.box_walk.specs.Walks.{BeginsFresh, IsWalkOn, IsWalkTo}
pub use Rattle.box_walk.specs.Ways.{GoesOn, HaveCome, HaveComeTo, IsFollowedTo, TellsReturns}
pub use Rattle.box_walk.specs.declared.arriving.Arrivals.{Arrivals}
pub use Rattle.box_walk.specs.declared.journeys.Journey.{Journey}
pub use Rattle.box_walk.specs.declared.walks.Ending.{Ending}
pub use Rattle.conn_tracking.specs.OnImages.{GivesReply, connections_at}
pub use Rattle.conn_tracking.specs.declared.on_images.ImageEntry.{ImageEntry}
