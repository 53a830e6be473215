-- The definitions that longer pages take, from one place.
pub use Rattle.box_survey.specs.Cells.{AreHalves, AreMeeting, HoldsCell, meets_at}
pub use Rattle.box_survey.specs.Findings.{AreThere, IsCompared, IsFirstSharing, IsPast, IsSurveyed, IsUncovered, OverlapsLater}
pub use Rattle.box_survey.specs.Slices.{AreSlices}
pub use Rattle.box_survey.specs.Survey.{HoldsAt, IsFirstIn, ShareAt}
pub use Rattle.box_survey.specs.declared.findings.Findings.{Findings}
pub use Rattle.box_survey.specs.declared.sides.Cut.{Cut}
