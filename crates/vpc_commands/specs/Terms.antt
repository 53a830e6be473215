-- The definitions that longer pages take, from one place.
pub use Rattle.diff_check.specs.Diffs.{IsDiffListingDecided}
pub use Rattle.reach_check.specs.Texts.{IsTextDecided}
pub use Rattle.command_job.specs.Status.{IsOfDevice}
pub use Rattle.command_job.specs.declared.status.Status.{Status}
pub use Rattle.query_words.specs.Words.{word_at}
pub use Rattle.report_check.specs.Certified.{IsReportDecided}
pub use Rattle.report_reader.specs.Reports.{report_of_text}
pub use Rattle.report_reader.specs.declared.report.Report.{Report}
pub use Rattle.vpc_commands.specs.Complete.{InternetIsNoInterface, IsComplete, IsFault, ReadFailed}
pub use Rattle.vpc_commands.specs.Due.{IsAnswered, IsDue}
pub use Rattle.vpc_commands.specs.Files.{AreToldBytes, Describes, IsAnsweredBy, IsAnsweredTo, IsNoNetwork, IsToldNetwork, second_fault, third_fault}
pub use Rattle.vpc_commands.specs.Words.{command_of, file_name, files_of, second_name, third_name}
pub use Rattle.vpc_commands.specs.declared.files.Which.{Which}
pub use Rattle.vpc_commands.specs.declared.words.Command.{Command}
