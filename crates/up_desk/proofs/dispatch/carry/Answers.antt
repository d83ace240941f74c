use Rattle.up_machine.specs.declared.command.Command.TheVariants.{Found, Rotate, AddImage, Refresh, AddVehicle, ReplaceEcu, OpenCampaign, CloseCampaign, Deliver, Fetch}
use Rattle.up_desk.proofs.Serving.{of_carried}
use Rattle.up_desk.proofs.dispatch.carry.Goals as goal

pub returns-in-Found : goal.returns-in-Found
returns-in-Found g c = of_carried g.D.Store c.args.at c.args.command.now (Found c.in-Found.key_set) c.in-Found.is c.found.ensures

pub returns-in-Rotate : goal.returns-in-Rotate
returns-in-Rotate g c = of_carried g.D.Store c.args.at c.args.command.now (Rotate c.in-Rotate.key_set) c.in-Rotate.is c.rotate.ensures

pub returns-in-AddImage : goal.returns-in-AddImage
returns-in-AddImage g c = of_carried g.D.Store c.args.at c.args.command.now (AddImage c.in-AddImage.image) c.in-AddImage.is c.add_image.ensures

pub returns-in-Refresh : goal.returns-in-Refresh
returns-in-Refresh g c = of_carried g.D.Store c.args.at c.args.command.now (Refresh c.in-Refresh.version) c.in-Refresh.is c.refresh.ensures

pub returns-in-AddVehicle : goal.returns-in-AddVehicle
returns-in-AddVehicle g c = of_carried g.D.Store c.args.at c.args.command.now (AddVehicle c.in-AddVehicle.new) c.in-AddVehicle.is c.add_vehicle.ensures

pub returns-in-ReplaceEcu : goal.returns-in-ReplaceEcu
returns-in-ReplaceEcu g c = of_carried g.D.Store c.args.at c.args.command.now (ReplaceEcu c.in-ReplaceEcu.new) c.in-ReplaceEcu.is c.replace_ecu.ensures

pub returns-in-OpenCampaign : goal.returns-in-OpenCampaign
returns-in-OpenCampaign g c = of_carried g.D.Store c.args.at c.args.command.now (OpenCampaign c.in-OpenCampaign.campaign) c.in-OpenCampaign.is (c.open.ensures (g.K.Scheme.rules c.args.scheme.now))

pub returns-in-CloseCampaign : goal.returns-in-CloseCampaign
returns-in-CloseCampaign g c = of_carried g.D.Store c.args.at c.args.command.now (CloseCampaign c.in-CloseCampaign.name) c.in-CloseCampaign.is (c.close.ensures (g.K.Scheme.rules c.args.scheme.now))

pub returns-in-Fetch : goal.returns-in-Fetch
returns-in-Fetch g c = of_carried g.D.Store c.args.at c.args.command.now (Fetch c.in-Fetch.repository c.in-Fetch.name) c.in-Fetch.is (c.fetch.ensures (g.K.Scheme.rules c.args.scheme.now) c.args.catalog.now)

pub returns-in-Deliver : goal.returns-in-Deliver
returns-in-Deliver g c = of_carried g.D.Store c.args.at c.args.command.now (Deliver c.in-Deliver.body) c.in-Deliver.is c.deliver.ensures
